pub mod Proposals
pub mod Days
pub mod Commits
pub mod Turning
pub mod CommitCases
pub mod Passing
pub mod Renewing
pub mod Asked

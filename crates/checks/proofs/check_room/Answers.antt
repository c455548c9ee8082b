-- Fewer bytes than the text has, or as many and more.
use Rattle.std.proofs.Common.{lt-ltb, le-ltb}
use Rattle.texts.specs.Lent.{check_room}
use Rattle.checks.proofs.check_room.Goals as goal

pub returns-then-room-size : goal.returns-then-room-size
unfolding check_room
returns-then-room-size c = rw (lt-ltb _ _ c.if-room-size.true)

pub returns : goal.returns
unfolding check_room
returns c = rw (le-ltb _ _ c.if-room-size.false)

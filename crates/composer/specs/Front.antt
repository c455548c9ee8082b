-- What is written from byte 0 on stands at the start.
use Rattle.std.specs.Prelude.{ℕ, List, ◌≡◌, length, take, drop}
use Rattle.std.proofs.Common.{sym, ap, ◌∙◌, take_at}
use Rattle.fields.specs.Wrote.{Wrote, wrote_size, wrote_all}

module _ {out out' : List ℕ} {next : ℕ} {bytes : List ℕ} (w : Wrote out 0 out' next bytes) where
  -- the bytes before the next are those written, and as many as it says
  pub front_is : take next out' ≡ bytes
  front_is = ap (take next) (wrote_all w) ∙ take_at bytes (drop (length bytes) out) next (sym (wrote_size w))

  pub front_long : next ≡ length (take next out')
  front_long = wrote_size w ∙ sym (ap length front_is)

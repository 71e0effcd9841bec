-- A hash of a slice that holds the bytes m: where the output has the digest's length, it holds the digest of m, and the
-- call is not refused.
use mathlib.Core.Path.{◌≡◌, ap, ◌∙◌}
use mathlib.Core.List.{List}
use Prim.Native.Nat.{ℕ}
use lib.ListN.{length}
use Rattle.std.specs.Result.{is_ok, IsOk}
use Rattle.refusals.specs.Refusals.{Answer, number}
use Rattle.fips202.specs.Calls.{sized_answer, Hashed}
use Rattle.fips202.specs.CallLaws.{hashed_digest, hashed_done}

pub digest_of : (hash : List ℕ → List ℕ) (n : ℕ) {t m out r : List ℕ} {k : ℕ} → t ≡ m
    → Hashed (sized_answer n out) (hash t) out k r → length out ≡ n → r ≡ hash m
digest_of hash n e g h = hashed_digest g h ∙ ap hash e

pub carried_out : (r : Answer) {n : ℕ} {hash out new : List ℕ} → Hashed (sized_answer n out) hash out (number r) new
    → length out ≡ n → IsOk r
carried_out r g h = ap is_ok (hashed_done {r = r} g h)

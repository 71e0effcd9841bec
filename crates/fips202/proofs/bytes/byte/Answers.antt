-- A shift by 8 k bits divides by 2^(8 k), which is 256^k: computed for the eight k.
use Prim.Native.Nat.{◌*◌, ◌^◌}
use borrow.Author.Rules.{rules}
use lib.Dec.{eqb, eqb→eq}
use Rattle.words.specs.TableLaws.{every_at}
use Rattle.fips202.proofs.bytes.byte.Goals as goal

pub returns : goal.returns
returns c =
    let k = c.args.k in
    rw (eqb→eq (2 ^ (8 * k)) (256 ^ k) (every_at 8 (λ k. eqb (2 ^ (8 * k)) (256 ^ k)) tt k (search rules)))

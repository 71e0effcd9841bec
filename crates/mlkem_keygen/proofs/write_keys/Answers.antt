-- K-PKE's keys are made from g's halves and fill ek and the first 384 k bytes of dk; ek, its hash and z follow, which
-- is line 3.
use mathlib.Core.Path.{sym, ap, ◌∙◌}
use mathlib.Core.List.{List, ◌++◌}
use Prim.Native.Nat.{ℕ}
use borrow.Author.Rules.{rules}
use native.Mathlib.Omega.{arith}
use lib.ListN.{length, take}
use Rattle.words.specs.Part.{part_rest}
use Rattle.words.specs.Overwrite.{two_parts}
use Rattle.fips202.specs.Sponge.{sha3_256}
use Rattle.kpke.specs.KPke.{ek_from, dk_from}
use Rattle.kpke.proofs.Encoded.{length_encoded}
use Rattle.mlkem_keygen.proofs.write_keys.Goals as goal

pub write_keys-requires : goal.write_keys-requires
write_keys-requires c =
    record {
      fits = c.requires.fits;
      matrix = c.requires.matrix;
      rho = search rules;
      sigma = search rules;
      ek = search rules;
      dk = search rules;
    }

pub returns : goal.returns
unfolding dk_from
returns c =
    let n = c.vector_bytes-n in
    let s = c.args in
    let sigma = part_rest 32 s.g.now in
    let k = c.write_keys.ensures in
    let ek = k.ek ∙ ap (ek_from s.p (take 32 s.g.now)) sigma in
    let dk = k.dk ∙ ap (dk_from s.p) sigma in
    let r = c.write_rest.ensures ∙ ap (λ (l : List ℕ). l ++ (sha3_256 l ++ s.z.now)) ek in
    let long = ap length r in
    let first = length_encoded 12 s.p.k _ ∙ sym n.ensures in
    record { ek = ek; dk = two_parts s.dk.now n.result first (omega arith) dk r }

-- g is G(m || H(ek)): its first half is K, and its second half the coins that ct is encrypted with.
use mathlib.Core.Path.{ap, ◌∙◌}
use mathlib.Core.List.{List, ◌++◌}
use Prim.Native.Nat.{ℕ}
use native.Mathlib.Omega.{arith}
use lib.ListN.{take, drop, length-drop}
use lib.Seq.{take_all}
use Rattle.fips202.specs.Sponge.{sha3_512}
use Rattle.kpke.specs.KPke.{encrypt}
use Rattle.mlkem.specs.MlKem as fips203
use Rattle.mlkem.specs.Editions.{encaps_key, encaps_ct}
use Rattle.mlkem_encaps.proofs.write_mlkem.Goals as goal

pub returns : goal.returns
unfolding encaps_key encaps_ct fips203.encaps_key fips203.encaps_ct
returns c =
    let s = c.args in
    let e = c.hash_g.ensures ∙ ap (λ (l : List ℕ). sha3_512 (s.m.now ++ l)) c.hash_h.ensures in
    let digest = c.hash_g.new.out in
    let coins = take_all 32 (drop 32 digest) (omega (arith, length-drop 32 digest)) ∙ ap (drop 32) e in
    let by-coins = ap (encrypt s.p s.ek.now s.m.now) coins in
    record { ct = c.encrypt.ensures ∙ by-coins; k = c.copy_from_slice.ensures.after ∙ ap (take 32) e }

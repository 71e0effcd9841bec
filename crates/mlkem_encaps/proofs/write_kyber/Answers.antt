-- hashed is H(m), so that first is FIPS 203's K and ct its ciphertext of H(m); k is J(first || H(ct)).
use mathlib.Core.Path.{sym, ap, ap₂, ◌∙◌}
use mathlib.Core.List.{List, ◌++◌}
use Prim.Native.Nat.{ℕ}
use Rattle.parameters.specs.declared.Edition.TheVariants.{MlKem}
use Rattle.hash_functions.specs.Functions.{H, J}
use Rattle.mlkem.specs.Editions.{encaps_key, encaps_ct}
use Rattle.mlkem.specs.EditionLaws.{encaps_ct_hashed, encaps_key_hashed}
use Rattle.mlkem_encaps.proofs.write_kyber.Goals as goal

pub returns : goal.returns
returns c =
    let s = c.args in
    let p = s.p in
    let ek = s.ek.now in
    let m = s.m.now in
    let e = c.hash_h.ensures in
    let ct = c.write_mlkem.ensures.ct ∙ ap (encaps_ct MlKem p ek) e in
    let first = c.write_mlkem.ensures.k ∙ ap (encaps_key MlKem p ek) e in
    let k = c.hash_kdf.ensures ∙ ap₂ (λ (k ct : List ℕ). J (k ++ H ct)) first ct in
    record { ct = ct ∙ sym (encaps_ct_hashed p ek m); k = k ∙ sym (encaps_key_hashed p ek m) }

-- The passes on the two shares make the definition's k + 1 polynomials of each, and they are entered one by one.
use mathlib.Core.Path.{◌≡◌}
use Prim.Native.Nat.{◌+◌, ◌-◌, ◌*◌}
use Rattle.worksheet.specs.SharedList.{shared_list}
use Rattle.parameters.specs.Lengths.{vector_bytes}
use Rattle.masked_encryption_passes.proofs.PassLaws.{length-uv_pass, below-uv_pass}
use Rattle.masked_encryption.proofs.Reencrypted.{stage6_of_lem}
use native.Mathlib.Omega.{arith}
use Rattle.masked_encryption.proofs.reencryption.reencrypt.Goals as goal

pub returns : goal.returns
returns c =
    let a = c.args in
    let b = c.vector_bytes-b in
    let bytes : b.result - 0 ≡ vector_bytes a.p = omega (arith, b.ensures) in
    let front : 256 * (a.p.k + 1) - 0 ≡ 256 * (a.p.k + 1) = omega arith in
    let o₀ = c.uv_in_place.ensures in
    let o₁ = c.uv_in_place-2.ensures in
    record {
      ran =
          stage6_of_lem a.p a.ek.now c.requires.0.key.expanded (rw bytes at c.decode12_all.ensures)
          (shared_list a.n0.now a.n1.now) (shared_list a.mu0.now a.mu1.now)
          o₀ o₁ (rw front at c.enter_polynomials.ensures);
      range =
          record {
            long0 = rw o₀ (length-uv_pass a.p.k _ _ _ _);
            long1 = rw o₁ (length-uv_pass a.p.k _ _ _ _);
            below0 = rw o₀ (below-uv_pass a.p.k _ _ _ _);
            below1 = rw o₁ (below-uv_pass a.p.k _ _ _ _);
          };
    }

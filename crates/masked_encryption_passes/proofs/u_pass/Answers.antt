-- Column i of a, read with step k, times y, transformed back, plus e1: FIPS 203's row i of the transposed matrix.
use mathlib.Core.Path.{refl, ap, ap₂, ◌∙◌}
use Prim.Native.Nat.{◌*◌}
use native.Mathlib.Nat.{add_comm}
use native.Mathlib.Omega.{arith}
use Rattle.ring.specs.Polynomial.{add}
use Rattle.transform.specs.Transform.{inverse_ntt}
use Rattle.vectors.specs.Vector.{parts}
use Rattle.vectors.specs.VectorLaws.{dot_cong}
use Rattle.kpke.proofs.Encoded.{place_fits}
use Rattle.masked_encryption_passes.specs.Passes.{u_pass}
use Rattle.masked_encryption_passes.proofs.u_pass.Goals as goal

pub dot-requires : goal.dot-requires
dot-requires c =
    let s = c.args in
    record {
      left = λ j h. omega (arith, place_fits s.k j s.i h (omega arith));
      right = omega arith;
      polynomial = omega arith;
    }

pub returns : goal.returns
unfolding u_pass
returns c =
    let s = c.args in
    let e = dot_cong s.k (λ j h. ap (parts 256 s.a.now) (add_comm s.i (s.k * j))) (λ j h. refl) in
    c.add_to.ensures ∙ ap₂ add (c.inverse_ntt.ensures ∙ ap inverse_ntt (c.dot.ensures ∙ e)) refl

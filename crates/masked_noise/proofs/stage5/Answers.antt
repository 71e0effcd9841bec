-- k polynomials from N = 0 and k + 1 from N = k, written one behind the other, are the 2 k + 1 of stage 5.
use Prim.Native.Nat.{ℕ, ◌+◌, ◌-◌, ◌*◌, ◌≤◌}
use mathlib.Core.Path.{◌≡◌, refl, sym, ap₂, ◌∙◌}
use mathlib.Core.List.{List}
use native.Mathlib.Nat.{le_refl, le_trans, le-add_right}
use native.Mathlib.Omega.{arith}
use lib.ListN.{length, take}
use lib.Seq.{length-take-le}
use Rattle.worksheet.specs.SharedList.{SharedList, shared_list}
use Rattle.parameters.specs.declared.Parameters.{Parameters}
use Rattle.stages.specs.Counts.{noise_words, noise_coeffs, stage5_coeffs}
use Rattle.stages.specs.Layout.{polynomials}
use Rattle.stages.specs.LentLaws.{masks_rest}
use Rattle.stages.proofs.Laid.{parts_by_append, Front, Whole, front_long, rest-long, whole}
use Rattle.stages.proofs.StoredRun.{length_rest, ran_as}
use Rattle.masked_noise.specs.Lent.{Stage5Input}
use Rattle.masked_noise.proofs.TwoRuns.{words_behind, coeffs_behind, two_runs}
use Rattle.masked_noise.proofs.stage5.Goals as goal

-- what is lent reaches beyond y's parts, of w words and c coefficients a polynomial
module _ {p : Parameters} {r n : SharedList} {ws cs : List ℕ} (g : Stage5Input p r ws cs n) where
  words-lent : {w : ℕ} → w ≡ noise_words p.eta1 → w * p.k + noise_words p.eta2 * (p.k + 1) ≤ length ws
  words-lent e = words_behind p _ _ e g.words

  words-reach : {w : ℕ} → w ≡ noise_words p.eta1 → w * p.k ≤ length ws
  words-reach e = le_trans (le-add_right _ _) (words-lent e)

  coeffs-lent : {c : ℕ} → c ≡ noise_coeffs p.eta1 → c * p.k + noise_coeffs p.eta2 * (p.k + 1) ≤ stage5_coeffs p
  coeffs-lent e = coeffs_behind p _ _ e (le_refl _)

  coeffs-reach : {c : ℕ} → c ≡ noise_coeffs p.eta1 → c * p.k ≤ length cs
  coeffs-reach e = le_trans (le-add_right _ _) (le_trans (coeffs-lent e) g.coeffs.enough)

  reach0 : 256 * p.k ≤ length n.s0
  reach0 = omega (arith, g.out.long0)

  reach1 : 256 * p.k ≤ length n.s1
  reach1 = omega (arith, g.out.long1)

  -- y in front
  front : (y : SharedList) → length y.s0 ≡ length (take (256 * p.k) n.s0)
      → length y.s1 ≡ length (take (256 * p.k) n.s1)
      → Front (256 * p.k) (256 * (2 * p.k + 1)) n y
  front y a b = record { long = g.out; within = omega arith; kept0 = a; kept1 = b }

pub noise_polys-rec-requires : goal.noise_polys-rec-requires
noise_polys-rec-requires c =
    let p = c.requires in
    let m = coeffs_behind c.args.p _ _ refl p.coeffs.enough in
    record {
      width = p.fits.eta1;
      numbers = omega (arith, p.fits.rank.most);
      coins = p.coins;
      words = words-reach p refl;
      coeffs = record { enough = le_trans (le-add_right _ _) m; below = p.coeffs.below };
      out =
          record {
            long0 = length-take-le _ c.args.n0.now (reach0 p);
            long1 = length-take-le _ c.args.n1.now (reach1 p);
          };
    }

pub noise_polys-requires : goal.noise_polys-requires
noise_polys-requires c =
    let g = c.requires in
    let k = c.args.p.k in
    let y = c.noise_polys-rec in
    let e : 256 * (2 * k + 1) - 256 * k ≡ 256 * (k + 1) = omega arith in
    record {
      width = g.fits.eta2;
      numbers = omega (arith, g.fits.rank.most);
      coins = g.coins;
      words = length_rest _ _ c.args.ws.now (words-lent g c.noise_words.ensures.value);
      coeffs = masks_rest _ _ (coeffs-lent g c.noise_coeffs.ensures.value) g.coeffs;
      out = rw e at (rest-long (front g (shared_list y.new.f0 y.new.f1) y.auto.f0 y.auto.f1));
    }

pub returns : goal.returns
returns c =
    let a = c.args in
    let k = a.p.k in
    let y = c.noise_polys-rec in
    let e = c.noise_polys in
    let f = front c.requires (shared_list y.new.f0 y.new.f1) y.auto.f0 y.auto.f1 in
    let y' = shared_list y.new.f0 y.new.f1 in
    let e' = shared_list e.new.f0 e.new.f1 in
    let both : Whole (256 * k) (256 * (2 * k + 1)) (shared_list a.n0.now a.n1.now) y' e' =
    record { front = f; kept0 = e.auto.f0; kept1 = e.auto.f1 } in
    let count : 2 * k + 1 ≡ k + (k + 1) = omega arith in
    let value =
    ap₂ polynomials count (whole both)
    ∙ parts_by_append (λ t. t) 256 k (k + 1) y' e' (front_long f) in
    ran_as refl (sym value)
    (two_runs a.p (shared_list a.r0.now a.r1.now) _ _ c.noise_words.ensures.value
    c.noise_coeffs.ensures.value y.ensures e.ensures)

pub overflow_mul-w : goal.overflow_mul-w
overflow_mul-w c = omega (arith, words-reach c.requires c.noise_words.ensures.value)

pub overflow_mul-c : goal.overflow_mul-c
overflow_mul-c c = omega (arith, coeffs-reach c.requires c.noise_coeffs.ensures.value)

pub slice_bounds-noise_polys-count : goal.slice_bounds-noise_polys-count
slice_bounds-noise_polys-count c = words-reach c.requires c.noise_words.ensures.value

pub slice_bounds-noise_polys-start : goal.slice_bounds-noise_polys-start
slice_bounds-noise_polys-start c = words-reach c.requires c.noise_words.ensures.value

pub slice_bounds-noise_polys-count-2 : goal.slice_bounds-noise_polys-count-2
slice_bounds-noise_polys-count-2 c = coeffs-reach c.requires c.noise_coeffs.ensures.value

pub slice_bounds-noise_polys-start-2 : goal.slice_bounds-noise_polys-start-2
slice_bounds-noise_polys-start-2 c = coeffs-reach c.requires c.noise_coeffs.ensures.value

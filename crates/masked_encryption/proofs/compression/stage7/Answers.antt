-- u's words are those of its k polynomials one after the other; v's stand behind theirs.
use mathlib.Core.Path.{◌≡◌, refl, sym, ap, ◌∙◌}
use mathlib.Core.List.{List}
use Prim.Native.Nat.{ℕ, ◌+◌, ◌-◌, ◌*◌, ◌≤◌}
use native.Mathlib.Nat.{mul-le-mul}
use native.Mathlib.Omega.{arith}
use lib.ListN.{length, take}
use lib.Seq.{length-take-le}
use Rattle.worksheet.specs.SharedList.{SharedList, shared_list}
use Rattle.worksheet.specs.Zip.{zip}
use Rattle.parameters.specs.declared.Parameters.{Parameters}
use Rattle.parameters.specs.Largest.{planes_most}
use Rattle.stages.specs.Worksheet.{word_count}
use Rattle.stages.specs.Counts.{compress_poly_words, stage7_words}
use Rattle.stages.specs.Lent.{Long}
use Rattle.stages.specs.LentLaws.{residues_part, residues_rest}
use Rattle.stages.proofs.Laid.{Front, Whole, front_long, rest-long, whole, zip_append, same_length0, same_length1}
use Rattle.stages.proofs.StoredRun.{length_rest, ran_as}
use Rattle.masked_encryption.proofs.Polynomials.{group_masks, stage7-ran}
use Rattle.masked_encryption.proofs.compression.stage7.Goals as goal

-- ---- facts: the masks of u, and the planes
-- the masks of v stand behind u's
all_masks : (p : Parameters) (ws : List ℕ) → stage7_words p ≤ length ws
    → p.k * compress_poly_words p.du + compress_poly_words p.dv ≤ length ws
unfolding stage7_words
all_masks p ws h = h

masks_within : (p : Parameters) {n : ℕ} (ws : List ℕ) → n ≡ compress_poly_words p.du → stage7_words p ≤ length ws
    → p.k * n ≤ length ws
masks_within p ws e h = omega (arith, ap (λ (n : ℕ). p.k * n) e, all_masks p ws h)

-- x, u's planes, in front of l's other ones, and z, v's planes, behind them
front : (p : Parameters) {l x : SharedList} → Long (word_count p) l
    → length x.s0 ≡ length (take (p.k * (4 * p.du)) l.s0) → length x.s1 ≡ length (take (p.k * (4 * p.du)) l.s1)
    → Front (p.k * (4 * p.du)) (word_count p) l x
front p long e₀ e₁ = record { long = long; within = omega arith; kept0 = e₀; kept1 = e₁ }

both : (c : goal.After-slice_known-6-1)
    → (let p = c.args.p in
    let u = shared_list c.compress_polynomials-rec.new.out0 c.compress_polynomials-rec.new.out1 in
    let v = shared_list c.compress_groups.new.out0 c.compress_groups.new.out1 in
    Whole (p.k * (4 * p.du)) (word_count p) (shared_list c.args.planes0.now c.args.planes1.now) u v)
both c =
    let u = c.compress_polynomials-rec.auto in
    record {
      front = front c.args.p c.requires.out u.out0 u.out1;
      kept0 = c.compress_groups.auto.out0;
      kept1 = c.compress_groups.auto.out1;
    }

pub compress_polynomials-rec-requires : goal.compress_polynomials-rec-requires
compress_polynomials-rec-requires c =
    let p = c.args.p in
    let n = p.k * (4 * p.du) in
    record {
      depth = c.requires.fits.du.most;
      input = residues_part 0 (256 * p.k) (omega arith) c.requires.input;
      words = omega (arith, all_masks p c.args.ws.now c.requires.words);
      out =
          record {
            long0 = length-take-le n c.args.planes0.now (omega arith);
            long1 = length-take-le n c.args.planes1.now (omega arith);
          };
    }

pub compress_groups-requires : goal.compress_groups-requires
compress_groups-requires c =
    let p = c.args.p in
    let masks = c.compress_poly_words.ensures.value in
    let u = c.compress_polynomials-rec.auto in
    let rest : word_count p - p.k * (4 * p.du) ≡ p.dv * 4 = omega arith in
    record {
      depth = omega (arith, c.requires.fits.dv.most);
      input = residues_rest (256 * p.k) 256 (omega arith) c.requires.input;
      words =
          length_rest (p.k * c.compress_poly_words.result) ((3 * p.dv + 38) * 4) c.args.ws.now
          (omega (
            arith,
            ap (λ (n : ℕ). p.k * n) masks,
            all_masks p c.args.ws.now c.requires.words,
            group_masks p.dv 1,
          ));
      out = rw rest at (rest-long (front p c.requires.out u.out0 u.out1));
    }

pub returns : goal.returns
returns c cs =
    let p = c.args.p in
    let masks = c.compress_poly_words.ensures.value in
    let u = shared_list c.compress_polynomials-rec.new.out0 c.compress_polynomials-rec.new.out1 in
    let v = shared_list c.compress_groups.new.out0 c.compress_groups.new.out1 in
    let value =
    ap (zip (word_count p)) (whole (both c))
    ∙ zip_append (p.k * (4 * p.du)) (4 * p.dv) u v (front_long (both c).front) in
    ran_as refl (sym value)
    (stage7-ran p c.args.uv0.now c.args.uv1.now c.requires.input.long0 c.requires.input.long1 c.args.ws.now v
    (ap (λ (n : ℕ). p.k * n) masks) (c.compress_polynomials-rec.ensures cs) (c.compress_groups.ensures cs))

pub overflow_mul-w : goal.overflow_mul-w
overflow_mul-w c =
    let few = mul-le-mul c.requires.fits.rank.most c.compress_poly_words.ensures.upper_bound in
    record { fits = omega (arith, few) }

pub overflow_mul-o-2 : goal.overflow_mul-o-2
overflow_mul-o-2 c = omega (arith, planes_most c.requires.fits)

pub slice_bounds-compress_polynomials-end : goal.slice_bounds-compress_polynomials-end
slice_bounds-compress_polynomials-end c = sym (length-take-le _ _ (omega arith))

pub slice_bounds-compress_polynomials-end-2 : goal.slice_bounds-compress_polynomials-end-2
slice_bounds-compress_polynomials-end-2 c = sym (length-take-le _ _ (omega arith))

pub slice_bounds-compress_polynomials-end-4 : goal.slice_bounds-compress_polynomials-end-4
slice_bounds-compress_polynomials-end-4 c = sym (length-take-le _ _ (omega arith))

pub slice_bounds-compress_polynomials-end-6 : goal.slice_bounds-compress_polynomials-end-6
slice_bounds-compress_polynomials-end-6 c = sym (length-take-le _ _ (omega arith))

pub offset_bounds-ws-w : goal.offset_bounds-ws-w
offset_bounds-ws-w c =
    omega (arith, mul-le-mul c.requires.fits.rank.most c.compress_poly_words.ensures.upper_bound)

pub slice_bounds-compress_groups-count-3 : goal.slice_bounds-compress_groups-count-3
slice_bounds-compress_groups-count-3 c =
    masks_within c.args.p c.args.ws.now c.compress_poly_words.ensures.value c.requires.words

pub slice_bounds-compress_groups-start-3 : goal.slice_bounds-compress_groups-start-3
slice_bounds-compress_groups-start-3 c =
    masks_within c.args.p c.args.ws.now c.compress_poly_words.ensures.value c.requires.words

pub offset_bounds-planes0-o : goal.offset_bounds-planes0-o
offset_bounds-planes0-o c = omega (arith, planes_most c.requires.fits)

pub offset_bounds-planes1-o : goal.offset_bounds-planes1-o
offset_bounds-planes1-o c = omega (arith, planes_most c.requires.fits)

pub shape_of-planes0 : goal.shape_of-planes0
shape_of-planes0 c = same_length0 (both c)

pub shape_of-planes1 : goal.shape_of-planes1
shape_of-planes1 c = same_length1 (both c)

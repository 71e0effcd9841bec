-- The planes of 256 numbers, in four groups of 64: the planes' words determine the numbers, and compression of a shared
-- polynomial gives shares of the words of the compressed coefficients (stages 2 and 7).
use Rattle.std.specs.Prelude.{◌≡◌, ℕ, ◌+◌, ◌*◌, ◌/◌, ◌%◌, ◌^◌, ◌<◌, length}
use Rattle.std.proofs.Math.Path.{sym, ap}
use Rattle.std.proofs.Common.{◌∙◌, arith, ext_get_or}
use mathlib.Core.List.{List, map}
use Rattle.std.proofs.Math.ListN.{get_or}
use Rattle.std.proofs.lemmas.List.{length-map}
use Rattle.words.specs.Bounded.{Below}
use Rattle.words.specs.Digit.{digit}
use Rattle.words.specs.DigitLaws.{ext_bits}
use Rattle.words.specs.Plane.{plane}
use Rattle.words.specs.PlaneLaws.{digit-plane, plane_cong}
use Rattle.words.specs.Residue.{q}
use Rattle.words.specs.Tab.{tab}
use Rattle.words.specs.TabLaws.{length-tab, get_or-tab}
use Rattle.codec.specs.Compress.{compress}
use Rattle.codec.specs.CompressLaws.{compress_lt, get_or-compress}
use Rattle.worksheet.specs.Shares.{Shares}
use Rattle.worksheet.specs.Turns.{each_weaken}
use Rattle.worksheet.specs.Gives.{Gives, ret_g, gives_bind, gives_weaken, gives-times}
use Rattle.worksheet.specs.SharedList.{SharedList, shared_at}
use Rattle.masked_compression.specs.Compression.{masked_compress}
use Rattle.masked_compression.specs.CompressionLaws.{gives-masked_compress}
use Rattle.vectors.specs.VectorLaws
use Rattle.stages.specs.Worksheet.{planes_of, compress_poly}
use Rattle.stages.specs.FlattenLaws.{flatten_cancel}
use Rattle.meaning.specs.StageSharing.{PolySharing, SharingList}
use Rattle.meaning.specs.StageSharingLaws.{poly_sharing_at, sharing_list_tab, sharing_list_flatten}

-- the planes of group g of the numbers f
abbrev pub plane_of : List ℕ → ℕ → ℕ → ℕ
plane_of f g = plane 64 (λ i. get_or f (64 * g + i) 0)

pub digit-plane_of : (f : List ℕ) (i j : ℕ) → digit (i % 64) (plane_of f (i / 64) j) ≡ digit j (get_or f i 0)
digit-plane_of f i j =
    let e : 64 * (i / 64) + i % 64 ≡ i = omega arith in
    digit-plane 64 (λ t. get_or f (64 * (i / 64) + t) 0) (i % 64) j (omega arith)
    ∙ ap (λ (n : ℕ). digit j (get_or f n 0)) e

-- 256 numbers of d bits
pub record Numbers (d : ℕ) (f : List ℕ) : Type 0 where
  pub long : length f ≡ 256
  pub below : Below (2 ^ d) f

pub compress-numbers : (d : ℕ) (f : List ℕ) → length f ≡ 256 → Numbers d (map (compress d) f)
compress-numbers d f e =
    record {
      long = length-map f (compress d) ∙ e;
      below = record { at = λ i. rw (get_or-compress d f i) (compress_lt d (get_or f i 0)) };
    }

-- they are determined by their planes
ext_planes : (d : ℕ) {f h : List ℕ} → Numbers d f → Numbers d h
    → ((g j : ℕ) → g < 4 → j < d → plane_of f g j ≡ plane_of h g j) → f ≡ h
ext_planes d {f} {h} a b r =
    ext_get_or 0 f h (a.long ∙ sym b.long) (λ i l.
    ext_bits {n = d} (record { lt = a.below.at i }) (record { lt = b.below.at i }) (λ j n.
    sym (digit-plane_of f i j)
    ∙ ap (digit (i % 64)) (r (i / 64) j (omega (arith, a.long)) n)
    ∙ digit-plane_of h i j))

-- ---- the words of the planes

module _ (d : ℕ) where
  each_group : (f : List ℕ) → VectorLaws.Each d 4 (λ g. tab d (plane_of f g))
  each_group f = record { long = λ g h. length-tab d (plane_of f g) }

  pub ext_planes_of : {f h : List ℕ} → Numbers d f → Numbers d h → planes_of d f ≡ planes_of d h → f ≡ h
  unfolding planes_of
  ext_planes_of {f} {h} a b e =
      ext_planes d a b (λ g j l k.
      sym (get_or-tab d (plane_of f g) j 0 k)
      ∙ ap (λ (w : List ℕ). get_or w j 0) (flatten_cancel (each_group f) (each_group h) e g l)
      ∙ get_or-tab d (plane_of h g) j 0 k)

-- ---- masked compression

gives_group : (d : ℕ) (x : ℕ → Shares) {v : ℕ → ℕ} → ((i : ℕ) → compress d (((x i).s0 + (x i).s1) % q) ≡ v i)
    → Gives (SharingList (tab d (plane 64 v))) (masked_compress d x)
gives_group d x {v} e =
    gives_weaken (λ l r.
    sharing_list_tab (each_weaken (λ j z s. rw (plane_cong 64 j j _ v (λ i k. ap (digit j) (e i))) at s) r))
    (gives-masked_compress d x)

pub gives-compress_poly : (d : ℕ) {f : List ℕ} {s : SharedList} → PolySharing f s
    → Gives (SharingList (planes_of d (map (compress d) f))) (compress_poly d s)
unfolding compress_poly planes_of
gives-compress_poly d {f} {s} a =
    gives_bind
    (gives-times (λ g. SharingList (tab d (plane_of (map (compress d) f) g))) 4 (λ g h.
    gives_group d (λ i. shared_at s (64 * g + i))
    (λ i. ap (compress d) (poly_sharing_at a (64 * g + i)) ∙ sym (get_or-compress d f (64 * g + i)))))
    (λ w e. ret_g (sharing_list_flatten 4 _ e))

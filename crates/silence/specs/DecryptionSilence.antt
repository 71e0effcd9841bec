-- Stages 1 and 2 of the worksheet: an entry asks for one share of the secret.
use Rattle.std.specs.Prelude.{ℕ, ◌+◌, ◌*◌, Bool, true, get_or, replicate}
use Rattle.std.proofs.Math.Path.{ap}
use mathlib.Core.List.{List, flatten}
use Rattle.ring.specs.Polynomial.{sub}
use Rattle.transform.specs.Transform.{ntt, inverse_ntt}
use Rattle.worksheet.specs.Shares.{Shares}
use Rattle.worksheet.specs.Couple.{Coupled, coupled_map}
use Rattle.worksheet.specs.CoupleLoops.{coupled-times}
use Rattle.worksheet.specs.Flatten.{turns-flatten}
use Rattle.worksheet.specs.Stage.{Stage, and_then, rearrange}
use Rattle.worksheet.specs.Sharing.{none}
use Rattle.worksheet.specs.SharedList.{SharedList, unzip}
use Rattle.worksheet.specs.Choice.{KeptList, SameShare}
use Rattle.worksheet.specs.PassLaws.{pass_stage}
use Rattle.masked_compression.specs.CompressionSilence.{coupled-masked_compress, groups-stage}
use Rattle.masked_sampler.specs.PolynomialSilence.{Anything}
use Rattle.parameters.specs.declared.Parameters.{Parameters}
use Rattle.vectors.specs.Vector.{parts, dot}
use Rattle.kpke.specs.KPke.{first_decoded, noisy_message}
use Rattle.stages.specs.EntryCounts.{compress_poly_entries, stage1_entries, stage2_entries, decrypt_entries}
use Rattle.stages.specs.Worksheet.{compress_poly, stage1, stage2, masked_decrypt}

-- ---- masked compression of a polynomial to depth d: each word of its planes can keep either share

pub compress_poly-stage : (d : ℕ)
    → Stage SameShare (KeptList (4 * d)) (compress_poly_entries d) (compress_poly d) (compress_poly d)
unfolding compress_poly compress_poly_entries
compress_poly-stage d =
    rearrange (KeptList (4 * d)) flatten flatten (λ c g b. c (g * d + b)) (λ c x y r. turns-flatten 4 d r)
    (groups-stage 4 d)

-- whatever the polynomials are
pub coupled-compress_poly : (d : ℕ) (c : ℕ → Bool) (f f' : SharedList)
    → Coupled (KeptList (4 * d) c) (compress_poly_entries d) (compress_poly d f) (compress_poly d f')
unfolding compress_poly compress_poly_entries
coupled-compress_poly d c f f' =
    coupled_map _ _ (λ x y r. turns-flatten 4 d r)
    (coupled-times 4 (λ g h. coupled-masked_compress d (λ b. c (g * d + b)) _ _))

-- ---- stage 2

abbrev message : List Shares → SharedList
message m = unzip 4 (λ g. get_or m g none)

stage2-stage : Stage SameShare Anything stage2_entries stage2 stage2
unfolding stage2
stage2-stage = rearrange Anything message message (λ d j. true) (λ d x y r. tt) (compress_poly-stage 1)

-- ---- stage 1, on each share of the secret

module _ (p : Parameters) (c : List ℕ) where
  abbrev noisy0 : List ℕ → List ℕ
  noisy0 l = noisy_message p (λ i. parts 256 l i) c

  abbrev noisy1 : List ℕ → List ℕ
  noisy1 l = sub (replicate 256 0) (inverse_ntt (dot p.k (λ i. parts 256 l i) (λ i. ntt (first_decoded p c i))))

  stage1-stage : Stage SameShare SameShare stage1_entries (λ s. stage1 p s c) (λ s. stage1 p s c)
  unfolding stage1
  stage1-stage =
      pass_stage SameShare 256 (λ s. noisy0 s.s0) (λ s. noisy1 s.s1) (λ s. noisy0 s.s0) (λ s. noisy1 s.s1)
      (λ s s' r. ap noisy0 r.same) (λ s s' r. ap noisy1 r.same)

  pub decrypt_stage : Stage SameShare Anything decrypt_entries (λ s. masked_decrypt p s c) (λ s. masked_decrypt p s c)
  unfolding masked_decrypt decrypt_entries
  decrypt_stage = and_then stage1-stage stage2-stage

-- Sums of one share of sharings that are kept in two arrays are sums of that array: they read its first terms only.
use Prim.Native.Nat.{ℕ, ◌<◌}
use mathlib.Core.Path.{◌≡◌, ap}
use mathlib.Core.List.{List}
use native.Mathlib.Omega.{arith}
use lib.ListN.{get_or}
use Rattle.worksheet.specs.Shares.{Shares}
use Rattle.worksheet.specs.Sharing.{none}
use Rattle.masked_sampler.specs.Coefficient.{sums}
use Rattle.masked_sampler.specs.SamplerLaws.{sums_cong}
use Rattle.worksheet.specs.SharedList.{shared_list}
use Rattle.worksheet.specs.Zip.{zip}
use Rattle.worksheet.specs.SharedListLaws.{get_d_zip}

module _ (k n : ℕ) (l m : List ℕ) (h : n < k) where
  pub sums_zip0 : sums n (λ j. (get_or (zip k (shared_list l m)) j none).s0) ≡ sums n (λ j. get_or l j 0)
  sums_zip0 = sums_cong n _ _ (λ j g. ap (λ (z : Shares). z.s0) (get_d_zip k (shared_list l m) j none (omega arith)))

  pub sums_zip1 : sums n (λ j. (get_or (zip k (shared_list l m)) j none).s1) ≡ sums n (λ j. get_or m j 0)
  sums_zip1 = sums_cong n _ _ (λ j g. ap (λ (z : Shares). z.s1) (get_d_zip k (shared_list l m) j none (omega arith)))

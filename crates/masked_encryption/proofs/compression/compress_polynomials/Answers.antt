-- The groups of k polynomials in one loop are those of each polynomial, one after the other.
use mathlib.Core.Path.{◌≡◌, ap, ◌∙◌}
use Prim.Native.Nat.{ℕ, ◌*◌}
use native.Mathlib.Omega.{arith}
use Rattle.worksheet.specs.Ran.{bind, over}
use Rattle.worksheet.specs.SharedList.{shared_list}
use Rattle.worksheet.specs.Zip.{zip}
use Rattle.stages.proofs.Laid.{flatten_zips}
use Rattle.stages.proofs.StoredRun.{ran_as}
use Rattle.masked_encryption.proofs.Polynomials.{group_words, group_masks, groups_of}
use Rattle.masked_encryption.proofs.compression.compress_polynomials.Goals as goal

pub compress_groups-requires : goal.compress_groups-requires
compress_groups-requires c =
    let d = c.args.d in
    let k = c.args.k in
    let e : 64 * (4 * k) ≡ 256 * k = omega arith in
    rw (e, group_masks d k, group_words d k) c.requires

pub returns : goal.returns
returns c cs =
    let a = c.args in
    let out = shared_list c.compress_groups.new.out0 c.compress_groups.new.out1 in
    ran_as (groups_of a.d a.k (shared_list a.f0.now a.f1.now))
    (flatten_zips a.d (4 * a.k) out ∙ ap (λ (n : ℕ). zip n out) (group_words a.d a.k))
    (bind _ (rw (group_masks a.d a.k) at (c.compress_groups.ensures cs)) over)

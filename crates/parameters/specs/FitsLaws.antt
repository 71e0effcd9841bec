-- FIPS 203's three sets lie within the bounds: their numbers are compared.
use Rattle.std.specs.Prelude.{ℕ, ◌≤◌}
use Rattle.std.proofs.Common.{arith}
use Rattle.parameters.specs.Sets.{ml_kem512, ml_kem768, ml_kem1024}
use Rattle.parameters.specs.Ranks.{of_rank}
use Rattle.parameters.specs.RankLaws.{each_set}
use Rattle.parameters.specs.Fits.{Within, Fits}

within : {low high : ℕ} (n : ℕ) → low ≤ n → n ≤ high → Within low high n
within n l h = record { least = l; most = h }

pub fits512 : Fits ml_kem512
fits512 =
    record {
      rank = within 2 (omega arith) (omega arith);
      eta1 = within 3 (omega arith) (omega arith);
      eta2 = within 2 (omega arith) (omega arith);
      du = within 10 (omega arith) (omega arith);
      dv = within 4 (omega arith) (omega arith);
    }

pub fits768 : Fits ml_kem768
fits768 =
    record {
      rank = within 3 (omega arith) (omega arith);
      eta1 = within 2 (omega arith) (omega arith);
      eta2 = within 2 (omega arith) (omega arith);
      du = within 10 (omega arith) (omega arith);
      dv = within 4 (omega arith) (omega arith);
    }

pub fits1024 : Fits ml_kem1024
fits1024 =
    record {
      rank = within 4 (omega arith) (omega arith);
      eta1 = within 2 (omega arith) (omega arith);
      eta2 = within 2 (omega arith) (omega arith);
      du = within 11 (omega arith) (omega arith);
      dv = within 5 (omega arith) (omega arith);
    }

pub fits-of_rank : (rank : ℕ) → Fits (of_rank rank)
fits-of_rank = each_set Fits fits512 fits768 fits1024

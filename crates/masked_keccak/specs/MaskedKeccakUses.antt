-- The permutation makes as many entries and draws as many words as its counts say, whatever is drawn.
use Rattle.std.specs.Prelude.{List, ℕ, ◌*◌}
use Rattle.worksheet.specs.Shares.{Shares}
use Rattle.worksheet.specs.Prog.{entry}
use Rattle.worksheet.specs.Uses.{Uses, ret_u, enter_u, uses_bind, uses-loop, uses_map, uses-times}
use Rattle.worksheet.specs.SharedList.{SharedList}
use Rattle.worksheet.specs.MaskedAndLaws.{uses-masked_and}
use Rattle.worksheet.specs.GatesLaws.{uses-masked_not, uses-masked_xor}
use Rattle.masked_keccak.specs.MaskedKeccak.{pass, chi_lane, masked_chi, masked_round, masked_keccak_p}
use Rattle.masked_keccak.specs.MaskedKeccak.{round_words}
use Rattle.masked_keccak.specs.EntryCounts.{chi_lane_entries, round_entries, keccak_p_entries}
use Rattle.masked_keccak.specs.MaskedKeccak.{keccak_p_words}

uses-entry : (v : ℕ) → Uses 1 0 0 (entry v)
unfolding entry
uses-entry v = enter_u ret_u

uses-pass : (l : List ℕ) → Uses 25 0 0 (pass l)
unfolding pass
uses-pass l = uses-times 25 (λ i. uses-entry _)

uses-chi_lane : (w u v : Shares) → Uses chi_lane_entries 1 0 (chi_lane w u v)
unfolding chi_lane
uses-chi_lane w u v = uses_bind (uses-masked_not 64 u) (λ n. uses_bind (uses-masked_and 64 n v) (uses-masked_xor w))

uses_chi : (s : SharedList) → Uses (25 * chi_lane_entries) round_words 0 (masked_chi s)
unfolding masked_chi
uses_chi s = uses-times 25 (λ i. uses-chi_lane _ _ _)

uses_round : (i : ℕ) (s : SharedList) → Uses round_entries round_words 0 (masked_round i s)
unfolding masked_round
uses_round i s =
    uses_bind (uses-pass s.s0) (λ a.
    uses_bind (uses-pass s.s1) (λ b.
    uses_bind (uses_chi _) (λ c. uses_map _ (uses-entry _))))

pub uses-masked_keccak_p : (s : SharedList) → Uses keccak_p_entries keccak_p_words 0 (masked_keccak_p s)
unfolding masked_keccak_p
uses-masked_keccak_p s = uses-loop 24 s uses_round

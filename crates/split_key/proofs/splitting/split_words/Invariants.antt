-- The masks are copied into z0, and turn i puts the xor of word i of z with mask i into z1: so both shares are made.
use lib.ListN.{get_or}
use Rattle.words.specs.Word.{xor}
use Rattle.words.specs.Fill.{Filled}
use Rattle.fips202.specs.Sponge.{lane_of}
use Rattle.split_key.proofs.splitting.split_words.Given as goal

-- i words split
abbrev pub invariant-loop-i : goal.invariant-loop-i
invariant-loop-i l = Filled 4 (λ i. xor (lane_of l.z i) (get_or l.mask_words i 0)) l.i l.z1

-- The sponge on two shares as a stage: for any two inputs, and any choice of the equal share in each word of output.
use Rattle.std.specs.Prelude.{ℕ, suc, ◌+◌, ◌-◌, ◌*◌, ◌/◌, ◌%◌, ◌<◌, ◌≤◌, ◌≡◌, Bool, length, get_or, take, drop}
use Rattle.std.proofs.Common.{ap, suc-mul, div-add-mod', div-lt_iff_lt-mul, mod-lt, arith}
use mathlib.Core.List.{List}
use Rattle.words.specs.Bounded.{Below}
use Rattle.words.specs.BoundedLaws.{below-drop, below-take}
use Rattle.words.specs.Bits.{Bits}
use Rattle.worksheet.specs.Shares.{Shares}
use Rattle.worksheet.specs.Prog.{Prog}
use Rattle.worksheet.specs.Couple.{Any, coupled_map, same_at_map}
use Rattle.worksheet.specs.CoupleLoops.{AllKeep, coupled-chain, like-chain, same_at_chain}
use Rattle.worksheet.specs.Places.{turns}
use Rattle.worksheet.specs.Turns.{Turns}
use Rattle.worksheet.specs.Stage.{EqualAt, Stage, and_then}
use Rattle.worksheet.specs.SharedList.{SharedList, shared_at}
use Rattle.worksheet.specs.SharedListLaws.{shared_at-unzip}
use Rattle.worksheet.specs.Choice.{Kept, KeptShared, both_bits}
use Rattle.masked_keccak.specs.MaskedKeccak.{masked_keccak_p}
use Rattle.masked_keccak.specs.EntryCounts.{keccak_p_entries}
use Rattle.masked_keccak.specs.SharedLanes.{Differences, LanesApart, keep_lanes, kept_lane, lanes_both}
use Rattle.masked_keccak.specs.Silence.{masked_keccak_p-stage, coupled-masked_keccak_p}
use Rattle.fips202.specs.Sponge.{padded, lane_of}
use Rattle.fips202.specs.Blocks.{below-padded}
use Rattle.masked_fips202.specs.XorBytes.{lane_of-bits}
use Rattle.masked_sponge.specs.MaskedSponge.{shared_block, masked_absorb, masked_squeeze, masked_sponge}
use Rattle.masked_sponge.specs.MaskedSponge.{input_blocks, further_blocks}
use Rattle.masked_sponge.specs.EntryCounts.{blocks_entries, sponge_entries}
use Rattle.masked_fips202.specs.EntryCounts.{sha3_512_entries, shake256_entries}
use Rattle.masked_fips202.specs.MaskedWords.{masked_sha3_512_words, masked_shake256_words}
use Rattle.masked_sponge.specs.MaskedBlocksSilence.{BlocksBoth, masked_blocks-stage}

-- ---- n words of output

-- word i is lane i % lanes of state i / lanes
module _ (lanes n : ℕ) (l : 0 < lanes) (u : lanes ≤ 25) where
  abbrev permutes : ℕ
  permutes = further_blocks lanes n

  state_lt : (i : ℕ) → i < n → i / lanes < suc permutes
  state_lt i h =
      (div-lt_iff_lt-mul {k = lanes} l).1
      (rw (suc-mul permutes lanes) (omega (arith, div-add-mod' (n - 1) lanes, mod-lt (n - 1) l)))

  -- state k, by the choice of its words
  abbrev state_words : (ℕ → Bool) → ℕ → Differences
  state_words c k = keep_lanes (λ j. c (k * lanes + j))

  -- each state is fresh, by its own masks
  keeps : (d : ℕ → Differences)
      → AllKeep (λ k. LanesApart (d k)) permutes keccak_p_entries (λ k. masked_keccak_p)
      (λ k. masked_keccak_p)
  keeps d k h t t' r = coupled-masked_keccak_p t t' (lanes_both r) (d (suc k))

  kept_word : (c : ℕ → Bool) (s s' : SharedList) {t t' : List SharedList}
      → Turns (λ k. LanesApart (state_words c k)) (suc permutes) t t' → (i : ℕ) → i < n
      → Kept 64 (c i) (shared_at (get_or t (i / lanes) s) (i % lanes))
      (shared_at (get_or t' (i / lanes) s') (i % lanes))
  kept_word c s s' r i h =
      rw (← ap c (div-add-mod' i lanes))
      (kept_lane (λ j. c (i / lanes * lanes + j)) (r.at s s' (i / lanes) (state_lt i h)) (i % lanes)
      (omega (arith, mod-lt i l)))

  masked_squeeze-stage : Stage LanesApart (KeptShared n) (permutes * keccak_p_entries) (masked_squeeze lanes n)
      (masked_squeeze lanes n)
  unfolding masked_squeeze
  masked_squeeze-stage =
      record {
        like = λ s s'. coupled_map _ _ (λ t t' q. q) (like-chain permutes s s' (λ k h. masked_keccak_p-stage.like));
        entry =
            turns (EqualAt LanesApart (masked_squeeze lanes n) (masked_squeeze lanes n)) permutes keccak_p_entries
            (λ k i h g.
            let x = masked_keccak_p-stage.entry i g in (
              x.0,
              λ s s' r.
                  same_at_map _ _
                  (same_at_chain permutes s s' (keeps (λ k. x.0)) r k (λ k h. masked_keccak_p-stage.like) h x.1),
            ));
        fresh = λ c. (
          state_words c 0,
          λ s s' r.
              coupled_map _ _ (λ t t' q.
              record { at = λ i h. rw (shared_at-unzip n _ i h, shared_at-unzip n _ i h) (kept_word c s s' q i h) })
              (coupled-chain permutes s s' (keeps (state_words c)) r),
        );
      }

-- ---- the whole, for inputs of known lengths

-- two strings of bytes, one for each share; the first has the length len
pub record SharedBytes (len : ℕ) : Type 0 where
  pub in0 : List ℕ
  pub in1 : List ℕ
  pub long : length in0 ≡ len
  pub below0 : Below 256 in0
  pub below1 : Below 256 in1

module _ (rate suffix len : ℕ) (h : suffix < 128) (l : 8 ≤ rate) (u : rate ≤ 200) where
  abbrev absorb : SharedBytes len → Prog SharedList
  absorb a = masked_absorb rate suffix a.in0 a.in1

  blocks_of : SharedBytes len → ℕ → ℕ → Shares
  blocks_of a = shared_block rate (padded rate suffix a.in0) a.in1

  both_blocks : (a b : SharedBytes len) {e : Unit {0}}
      → BlocksBoth (rate / 8) (input_blocks rate len) e (blocks_of a) (blocks_of b)
  unfolding blocks_of
  both_blocks a b =
      record {
        at = λ i k j g.
            both_bits (lane i j (below-padded rate h a.below0)) (lane i j a.below1)
            (lane i j (below-padded rate h b.below0)) (lane i j b.below1);
      }
    where
      lane : {p : List ℕ} (i j : ℕ) → Below 256 p → Bits 64 (lane_of (take rate (drop (i * rate) p)) j)
      lane i j b = lane_of-bits (below-take rate (below-drop (i * rate) b)) j

  masked_absorb_stage :
      Stage (λ (e : Unit {0}). Any) LanesApart (blocks_entries (rate / 8) (input_blocks rate len)) absorb absorb
  unfolding masked_absorb blocks_of
  masked_absorb_stage =
      let s = masked_blocks-stage (rate / 8) (input_blocks rate len) (omega arith) in
      record {
        like = λ a b. rw (a.long, b.long) (s.like (blocks_of a) (blocks_of b));
        entry = λ i k.
            (tt, λ a b r. rw (a.long, b.long) ((s.entry i k).1 (blocks_of a) (blocks_of b) (both_blocks a b)));
        fresh = λ d. (tt, λ a b r. rw (a.long, b.long) ((s.fresh d).1 (blocks_of a) (blocks_of b) (both_blocks a b)));
      }

  -- nothing is asked of the inputs; n words come out
  masked_sponge_stage : (n : ℕ)
      → Stage (λ (e : Unit {0}). Any) (KeptShared n) (sponge_entries rate len n)
      (λ (a : SharedBytes len). masked_sponge rate suffix a.in0 a.in1 n)
      (λ (b : SharedBytes len). masked_sponge rate suffix b.in0 b.in1 n)
  unfolding masked_sponge
  masked_sponge_stage n = and_then masked_absorb_stage (masked_squeeze-stage (rate / 8) n (omega arith) (omega arith))

-- ---- the two hashes, their output in words

pub masked_sha3_512_words_stage : (len : ℕ)
    → Stage (λ (e : Unit {0}). Any) (KeptShared 8) (sha3_512_entries len)
    (λ (a : SharedBytes len). masked_sha3_512_words a.in0 a.in1)
    (λ (b : SharedBytes len). masked_sha3_512_words b.in0 b.in1)
unfolding masked_sha3_512_words sha3_512_entries
masked_sha3_512_words_stage len = masked_sponge_stage 72 0x06 len (omega arith) (omega arith) (omega arith) 8

pub masked_shake256_words-stage : (len n : ℕ)
    → Stage (λ (e : Unit {0}). Any) (KeptShared n) (shake256_entries len n)
    (λ (a : SharedBytes len). masked_shake256_words a.in0 a.in1 n)
    (λ (b : SharedBytes len). masked_shake256_words b.in0 b.in1 n)
unfolding masked_shake256_words shake256_entries
masked_shake256_words-stage len n = masked_sponge_stage 136 0x1f len (omega arith) (omega arith) (omega arith) n

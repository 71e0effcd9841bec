-- Right: what the sponge on two shares gives joins to the sponge of the joined message, whatever masks are drawn.
use Rattle.std.specs.Prelude.{◌≡◌, refl, cond, ℕ, suc, ◌+◌, ◌*◌, ◌/◌, ◌%◌, ◌^◌, ◌<◌, ◌≤◌, ltb}
use Rattle.std.specs.Prelude.{List, [], length, get_or, drop, replicate}
use Rattle.std.proofs.Common.{sym, ap, ap₂, ◌∙◌, lt-ltb, le-ltb, arith}
use Rattle.std.proofs.Common.{mod-lt, mul-div_cancel, div-mul-le_self, add-one}
use Rattle.std.proofs.Math.Decide.{dec_lt}
use Rattle.std.proofs.Math.Nat.{lt-div-mul-add}
use Rattle.std.proofs.Math.ListN.{take}
use Rattle.std.proofs.lemmas.List.{get_or-replicate}
use Rattle.words.specs.Word.{xor}
use Rattle.words.specs.Bits.{Bits}
use Rattle.words.specs.WordLaws.{xor_same, xor_zero}
use Rattle.words.specs.Bounded.{Below}
use Rattle.words.specs.BoundedLaws.{below_nil, below-take, below-drop}
use Rattle.words.specs.TabLaws.{length-tab, get_or-tab, tab_of, tab_cong}
use Rattle.words.specs.Iterate.{iterate}
use Rattle.keccak.specs.KeccakP.{keccak_p}
use Rattle.worksheet.specs.Shares.{Shares}
use Rattle.worksheet.specs.Prog.{mask}
use Rattle.worksheet.specs.Run.{run}
use Rattle.worksheet.specs.Turns.{Each}
use Rattle.worksheet.specs.Gives.{Gives, ret_g, draw_g, gives_bind, gives_weaken, gives-loop, gives-times, gives-chain}
use Rattle.worksheet.specs.Gives.{gives-run}
use Rattle.worksheet.specs.Sharing.{none}
use Rattle.worksheet.specs.SharingLaws.{Sharing}
use Rattle.worksheet.specs.SharedList.{SharedList, shared_list, shared_at, unzip, joined_list}
use Rattle.worksheet.specs.SharedListLaws.{shared_at-unzip}
use Rattle.worksheet.specs.GatesSharing.{sharing-masked_xor}
use Rattle.masked_keccak.specs.JoinedLanes.{StateSharing, state_lanes, state_sharing, gives-masked_keccak_p}
use Rattle.fips202.specs.Sponge.{padded, lane_of, mixed, absorbed, byte_of, squeezed, sponge, sha3_512, shake256}
use Rattle.fips202.specs.Blocks.{length-padded, below-padded}
use Rattle.fips202.specs.Lanes.{lane_of_past, byte_place, block_lt}
use Rattle.fips202.specs.Words.{sponge_words, sha3_512_words, shake256_words}
use Rattle.masked_fips202.specs.XorBytes.{xor_of_take, xor_of_drop, xor_of_padded, length_joined, sharing_lane}
use Rattle.masked_fips202.specs.XorBytes.{byte_xor}
use Rattle.masked_sponge.specs.MaskedSponge.{start, mix_lanes, masked_blocks, masked_absorb, masked_squeeze}
use Rattle.masked_sponge.specs.MaskedSponge.{input_blocks, further_blocks, masked_sponge}
use Rattle.fips202.specs.Lent.{SpongeFits}
use Rattle.masked_fips202.specs.MaskedWordsLaws.{sha3_512_fits, shake256_fits}
use Rattle.masked_sponge.specs.MaskedBytes.{shared_bytes, masked_hash}
use Rattle.masked_fips202.specs.MaskedWords.{masked_sha3_512_words, masked_shake256_words}
use Rattle.masked_fips202.specs.MaskedCalls.{masked_sha3_512, masked_shake256}

-- ---- absorbing

gives-start : Gives (StateSharing (replicate 25 0)) start
unfolding start mask
gives-start =
    gives_bind (gives-times (λ j x. Bits 64 x) 25 (λ j h. draw_g (λ x l. ret_g (record { lt = l })))) (λ m e.
    ret_g (state_sharing refl e.long e.long
    (record {
      at = λ i h.
          record {
            bits0 = e.at 0 i h;
            bits1 = e.at 0 i h;
            joins = xor_same (get_or m i 0) ∙ sym (get_or-replicate 25 i 0 0 h);
          };
    })))

-- n lanes b, the shares of the lanes of p, which has no others
gives-mix_lanes : (n : ℕ) {b : ℕ → Shares} (p : List ℕ) {l : List ℕ} {s : SharedList} → n ≤ 25 → StateSharing l s
    → ((j : ℕ) → j < n → Sharing 64 (lane_of p j) (b j)) → ((j : ℕ) → n ≤ j → lane_of p j ≡ 0)
    → Gives (StateSharing (mixed p l)) (mix_lanes n b s)
unfolding mix_lanes mixed unzip
gives-mix_lanes n {b} p {l} {s} h r f g =
    gives_bind
    (gives-times (λ j. Sharing 64 (xor (get_or l j 0) (lane_of p j))) n (λ j k.
    sharing-masked_xor ((state_lanes r).at j (omega arith)) (f j k)))
    (λ z t.
    ret_g (state_sharing (length-tab 25 _) (length-tab 25 _) (length-tab 25 _)
    (record {
      at = λ j k.
          rw (get_or-tab 25 (λ i. xor (get_or l i 0) (lane_of p i)) j 0 k, shared_at-unzip 25 (lane z) j k)
          (go z t j k (dec_lt j n));
    })))
  where
    lane : List Shares → ℕ → Shares
    lane z j = cond (ltb j n) (get_or z j none) (shared_at s j)

    go : (z : List Shares) → Each (λ j. Sharing 64 (xor (get_or l j 0) (lane_of p j))) n z
        → (j : ℕ) → j < 25 → Dec (j < n) → Sharing 64 (xor (get_or l j 0) (lane_of p j)) (lane z j)
    go z t j k (yes q) = rw (lt-ltb j n q) (t.at none j q)
    go z t j k (no q) =
        rw (le-ltb j n (omega arith), g j (omega arith), xor_zero (get_or l j 0)) ((state_lanes r).at j k)

-- n blocks b, the shares of the lanes of the blocks p
gives-masked_blocks : (lanes n : ℕ) {b : ℕ → ℕ → Shares} (p : ℕ → List ℕ) → lanes ≤ 25
    → ((i j : ℕ) → j < lanes → Sharing 64 (lane_of (p i) j) (b i j)) → ((i j : ℕ) → lanes ≤ j → lane_of (p i) j ≡ 0)
    → Gives (StateSharing (iterate n (λ i s. keccak_p (mixed (p i) s)) (replicate 25 0))) (masked_blocks lanes n b)
unfolding masked_blocks iterate
gives-masked_blocks lanes n p h f g =
    gives_bind gives-start (λ s r.
    gives-loop (λ j. StateSharing (iterate j (λ i s. keccak_p (mixed (p i) s)) (replicate 25 0))) n
    (λ j l t a. gives_bind (gives-mix_lanes lanes (p j) h a (f j) (g j)) (λ u. gives-masked_keccak_p)) r)

-- a message in two shares of one length, to a sponge whose blocks are of whole lanes
pub record SharedMessage (rate suffix : ℕ) (in0 in1 : List ℕ) : Type 0 where
  pub sponge : SpongeFits rate suffix
  pub long : length in0 ≡ length in1
  pub bytes0 : Below 256 in0
  pub bytes1 : Below 256 in1

module _ {rate suffix : ℕ} {in0 in1 : List ℕ} (a : SharedMessage rate suffix in0 in1) where
  abbrev message : List ℕ
  message = joined_list (shared_list in0 in1)

  blocks : length (padded rate suffix message) / rate ≡ input_blocks rate (length in0)
  blocks =
      let e = length_joined in0 in1 a.long in
      let q = length in0 / rate in
      let p = a.sponge.positive in
      ap (λ (n : ℕ). n / rate)
      (length-padded rate suffix message q (rw e (div-mul-le_self (length in0) rate))
      (rw e (lt-div-mul-add {a = length in0} {b = rate} p)))
      ∙ mul-div_cancel (suc q) {n = rate} p
      ∙ sym (add-one q)

  gives_masked_absorb : Gives (StateSharing (absorbed rate (padded rate suffix message)))
      (masked_absorb rate suffix in0 in1)
  unfolding masked_absorb absorbed
  gives_masked_absorb =
      let f = a.sponge.fits in
      rw blocks
      (gives-masked_blocks (rate / 8) (input_blocks rate (length in0))
      (λ i. take rate (drop (i * rate) (padded rate suffix message)))
      (omega arith)
      (λ i j h.
      sharing_lane (xor_of_take rate (xor_of_drop (i * rate) (xor_of_padded in0 in1 a.long rate suffix)))
      (below-take rate (below-drop (i * rate) (below-padded rate a.sponge.short a.bytes0)))
      (below-take rate (below-drop (i * rate) a.bytes1)) j)
      (λ i j h. lane_of_past rate (drop (i * rate) (padded rate suffix message)) j a.sponge.whole h))

-- ---- squeezing

-- word i of the output from the state l
abbrev pub output_word : ℕ → List ℕ → ℕ → ℕ
output_word lanes l i = get_or (iterate (i / lanes) (λ _. keccak_p) l) (i % lanes) 0

-- z is a sharing of n words of output
pub record OutputSharing (lanes n : ℕ) (l : List ℕ) (z : SharedList) : Type 0 where
  pub long0 : length z.s0 ≡ n
  pub at : (i : ℕ) → i < n → Sharing 64 (output_word lanes l i) (shared_at z i)

gives-masked_squeeze : (lanes n : ℕ) {l : List ℕ} {s : SharedList} → 0 < lanes → lanes ≤ 25 → StateSharing l s
    → Gives (OutputSharing lanes n l) (masked_squeeze lanes n s)
unfolding masked_squeeze iterate unzip
gives-masked_squeeze lanes n {l} {s} h k r =
    gives_bind
    (gives-chain (λ j. StateSharing (iterate j (λ _. keccak_p) l)) (further_blocks lanes n)
    (λ j g t a. gives-masked_keccak_p a) r)
    (λ t c.
    ret_g (record {
      long0 = length-tab n _;
      at = λ i g. rw (shared_at-unzip n (λ i. shared_at (get_or t (i / lanes) s) (i % lanes)) i g)
          (let m = mod-lt i h in (state_lanes (c.at s (i / lanes) (block_lt lanes n i h g))).at (i % lanes)
          (omega arith));
    }))

-- its bytes join to those of the words
output_bytes : (rate d : ℕ) {l : List ℕ} {z : SharedList} → 0 < rate → rate % 8 ≡ 0
    → OutputSharing (rate / 8) ((d + 7) / 8) l z
    → joined_list (shared_bytes d z) ≡ squeezed rate l d
unfolding joined_list squeezed
output_bytes rate d {l} {z} h k o =
    rw (length-tab d (byte_of z.s0))
    (tab_cong d (λ x g.
    let p = byte_place rate x h k in
    ap₂ xor (get_or-tab d (byte_of z.s0) x 0 g) (get_or-tab d (byte_of z.s1) x 0 g)
    ∙ byte_xor (get_or z.s0 (x / 8) 0) (get_or z.s1 (x / 8) 0) (x % 8) (omega arith)
    ∙ ap (λ (w : ℕ). w / 256 ^ (x % 8) % 256) (o.at (x / 8) (omega arith)).joins
    ∙ rw (p.0, p.1, p.2)))

-- ---- the sponge

gives-masked_sponge : {rate suffix : ℕ} {in0 in1 : List ℕ} → SharedMessage rate suffix in0 in1 → (n : ℕ)
    → Gives (OutputSharing (rate / 8) n (absorbed rate (padded rate suffix (joined_list (shared_list in0 in1)))))
    (masked_sponge rate suffix in0 in1 n)
unfolding masked_sponge
gives-masked_sponge {rate} a n =
    let f = a.sponge.fits in
    let p = a.sponge.positive in
    let w = a.sponge.whole in
    gives_bind (gives_masked_absorb a) (λ s r. gives-masked_squeeze (rate / 8) n (omega arith) (omega arith) r)

-- two shares of the n words of l
pub record WordSharing (n : ℕ) (l : List ℕ) (z : SharedList) : Type 0 where
  pub long : length l ≡ n
  pub long0 : length z.s0 ≡ n
  pub at : (i : ℕ) → i < n → Sharing 64 (get_or l i 0) (shared_at z i)

pub joined_list_words : {n : ℕ} {l : List ℕ} {z : SharedList} → WordSharing n l z → joined_list z ≡ l
unfolding joined_list
joined_list_words {n} {l} s = rw s.long0 (sym (tab_of 0 l n s.long (λ i h. sym (s.at i h).joins)))

gives-sponge_words : {rate suffix : ℕ} {in0 in1 : List ℕ} → SharedMessage rate suffix in0 in1 → (n : ℕ)
    → Gives (WordSharing n (sponge_words rate suffix (joined_list (shared_list in0 in1)) n))
    (masked_sponge rate suffix in0 in1 n)
gives-sponge_words {rate} {suffix} {in0} {in1} a n =
    let w = output_word (rate / 8) (absorbed rate (padded rate suffix (joined_list (shared_list in0 in1)))) in
    gives_weaken (λ z o.
    record { long = length-tab n w; long0 = o.long0; at = λ i h. rw (get_or-tab n w i 0 h) (o.at i h) })
    (gives-masked_sponge a n)

gives-masked_hash : {rate suffix : ℕ} {in0 in1 : List ℕ} → SharedMessage rate suffix in0 in1 → (d : ℕ)
    → Gives (λ z. joined_list z ≡ sponge rate suffix (joined_list (shared_list in0 in1)) d)
    (masked_hash rate suffix in0 in1 d)
unfolding masked_hash sponge
gives-masked_hash {rate} a d =
    gives_bind (gives-masked_sponge a ((d + 7) / 8)) (λ z o.
    ret_g (output_bytes rate d a.sponge.positive a.sponge.whole o))

-- ---- the two hashes, by name

module _ {in0 in1 : List ℕ} (e : length in0 ≡ length in1) (b0 : Below 256 in0) (b1 : Below 256 in1) where
  message_to : {rate suffix : ℕ} → SpongeFits rate suffix → SharedMessage rate suffix in0 in1
  message_to s = record { sponge = s; long = e; bytes0 = b0; bytes1 = b1 }

  -- in words
  pub gives_masked_sha3_512_words : Gives (WordSharing 8 (sha3_512_words (joined_list (shared_list in0 in1))))
      (masked_sha3_512_words in0 in1)
  unfolding masked_sha3_512_words sha3_512_words
  gives_masked_sha3_512_words = gives-sponge_words (message_to sha3_512_fits) 8

  pub gives-masked_shake256_words : (n : ℕ)
      → Gives (WordSharing n (shake256_words (joined_list (shared_list in0 in1)) n)) (masked_shake256_words in0 in1 n)
  unfolding masked_shake256_words shake256_words
  gives-masked_shake256_words n = gives-sponge_words (message_to shake256_fits) n

  -- in bytes
  gives_masked_sha3_512 :
      Gives (λ z. joined_list z ≡ sha3_512 (joined_list (shared_list in0 in1))) (masked_sha3_512 in0 in1)
  unfolding masked_sha3_512 sha3_512
  gives_masked_sha3_512 = gives-masked_hash (message_to sha3_512_fits) 64

  gives-masked_shake256 : (d : ℕ)
      → Gives (λ z. joined_list z ≡ shake256 (joined_list (shared_list in0 in1)) d) (masked_shake256 in0 in1 d)
  unfolding masked_shake256 shake256
  gives-masked_shake256 d = gives-masked_hash (message_to shake256_fits) d

  -- what the calls leave, on masks below 2 ^ 64
  pub sha3_512_joined : {masks : List ℕ} → Below (2 ^ 64) masks
      → joined_list (run (masked_sha3_512 in0 in1) masks []).value ≡ sha3_512 (joined_list (shared_list in0 in1))
  sha3_512_joined h = gives-run gives_masked_sha3_512 h (below_nil (omega arith))

  pub shake256_joined : {masks : List ℕ} (d : ℕ) → Below (2 ^ 64) masks
      → joined_list (run (masked_shake256 in0 in1 d) masks []).value ≡ shake256 (joined_list (shared_list in0 in1)) d
  shake256_joined d h = gives-run (gives-masked_shake256 d) h (below_nil (omega arith))

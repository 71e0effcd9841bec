-- Couplings of the adder: every entry can be made equal, whatever the planes are, and the sum planes set apart by any
-- differences.
use Rattle.std.specs.Prelude.{ℕ, suc, ◌+◌, ◌-◌, ◌*◌, ◌<◌, Bool, List}
use Rattle.std.proofs.Math.Path.{sym}
use Rattle.std.proofs.Common.{ap, ◌∙◌, arith}
use Rattle.std.proofs.Math.Bool.{false}
use Rattle.std.proofs.Math.Dec.{ltb}
use Rattle.words.specs.Word.{xor}
use Rattle.words.specs.Bits.{Bits}
use Rattle.words.specs.WordLaws.{xor-bits, zero_bits, xor_zero, zero_xor, xor_cancel}
use Rattle.worksheet.specs.Shares.{Shares}
use Rattle.worksheet.specs.Prog.{◌>>=◌}
use Rattle.worksheet.specs.Couple.{Coupled, Like, Silent, SameAt, coupled_bind, same_at_left, same_at_right}
use Rattle.worksheet.specs.CoupleLoops.{coupled-times, like-times, same_at_times, silent-times}
use Rattle.worksheet.specs.CoupleLoops.{coupled-chain, like-chain, same_at_chain}
use Rattle.worksheet.specs.Places.{cut, turns}
use Rattle.worksheet.specs.Turns.{Turns}
use Rattle.worksheet.specs.Sharing.{none}
use Rattle.worksheet.specs.SharingLaws.{Apart, apart_cong, apart-xor_shares, sharing-bits, sharing-none}
use Rattle.worksheet.specs.SharingLaws.{keep, share-keep, keep-bits, keep-xor, keep_same}
use Rattle.masked_adder.specs.Adder.{carry_step, at, mask_planes, carries, sum_planes, adder}
use Rattle.masked_adder.specs.EntryCounts.{adder_entries, carry_entries}
use Rattle.masked_adder.specs.PlaneSum.{plain_carry, plain_sum}
use Rattle.masked_adder.proofs.AdderStepsSilence.{like-mask_plane, coupled-mask_plane, silent-mask_plane}
use Rattle.masked_adder.proofs.AdderStepsSilence.{sum_read, carry_read, bits_carry, sum_shares}
use Rattle.masked_adder.proofs.AdderStepsSilence.{like-carry_step, coupled-carry_step, same_at_carry_step}
use Rattle.masked_adder.proofs.AdderStepsSilence.{like-sum_plane, coupled-sum_plane, same_at_sum_plane}

module _ (n : ℕ) where
  like-mask_planes : (x x' : ℕ → ℕ) → Like (n * 1) (mask_planes n x) (mask_planes n x')
  like-mask_planes x x' = like-times n (λ j h. like-mask_plane (x j) (x' j))

  like-carries : (a b a' b' : List Shares) → Like ((n - 1) * carry_entries) (carries n a b) (carries n a' b')
  like-carries a b a' b' = like-chain (n - 1) none none (λ j h c c'. like-carry_step _ _ c _ _ c')

  like-sum_planes : (a b c a' b' c' : List Shares) → Like (n * 2) (sum_planes n a b c) (sum_planes n a' b' c')
  like-sum_planes a b c a' b' c' = like-times n (λ j h. like-sum_plane _ _ _ _ _ _)

  like-rest : (a b a' b' : List Shares)
      → Like ((n - 1) * carry_entries + n * 2) (carries n a b >>= sum_planes n a b)
      (carries n a' b' >>= sum_planes n a' b')
  like-rest a b a' b' = coupled_bind (like-carries a b a' b') (λ c c' t. like-sum_planes a b c a' b' c')

  pub like-adder : (x y x' y' : ℕ → ℕ) → Like (adder_entries n) (adder n x y) (adder n x' y')
  unfolding adder adder_entries
  like-adder x y x' y' =
      coupled_bind (like-mask_planes x x')
      (λ a a' t. coupled_bind (like-mask_planes y y') (λ b b' t. like-rest a b a' b'))

module _ (n : ℕ) {x y x' y' : ℕ → ℕ} (wx : (j : ℕ) → Bits 64 (x j)) (wy : (j : ℕ) → Bits 64 (y j))
    (wx' : (j : ℕ) → Bits 64 (x' j))
    (wy' : (j : ℕ) → Bits 64 (y' j)) where
  abbrev Masked : (ℕ → ℕ) → (ℕ → ℕ) → (ℕ → ℕ) → List Shares → List Shares → Type 0
  Masked d x x' = Turns (λ j. Apart 64 (d j) (x j) (x' j)) n

  masked-x : {d : ℕ → ℕ} → ((j : ℕ) → Bits 64 (d j))
      → Coupled (Masked d x x') (n * 1) (mask_planes n x) (mask_planes n x')
  masked-x v = coupled-times n (λ j h. coupled-mask_plane (wx j) (wx' j) (v j))

  masked-y : {d : ℕ → ℕ} → ((j : ℕ) → Bits 64 (d j))
      → Coupled (Masked d y y') (n * 1) (mask_planes n y) (mask_planes n y')
  masked-y v = coupled-times n (λ j h. coupled-mask_plane (wy j) (wy' j) (v j))

  -- the differences at which share q of plane j is equal
  abbrev keep_x : Bool → ℕ → ℕ
  keep_x q j = keep q (x j) (x' j)

  abbrev keep_y : Bool → ℕ → ℕ
  keep_y q j = keep q (y j) (y' j)

  abbrev keep_c : Bool → ℕ → ℕ
  keep_c q j = keep q (plain_carry x y j) (plain_carry x' y' j)

  bits_x : (q : Bool) (j : ℕ) → Bits 64 (keep_x q j)
  bits_x q j = keep-bits q (wx j) (wx' j)

  bits_y : (q : Bool) (j : ℕ) → Bits 64 (keep_y q j)
  bits_y q j = keep-bits q (wy j) (wy' j)

  -- a carry of which share q is equal
  abbrev KeptCarry : Bool → ℕ → Shares → Shares → Type 0
  KeptCarry q j = Apart 64 (keep_c q j) (plain_carry x y j) (plain_carry x' y' j)

  kept_carry_none : (q : Bool) → KeptCarry q 0 none none
  unfolding plain_carry
  kept_carry_none q =
      record { left = sharing-none; right = sharing-none; by = sym (zero_xor (keep q 0 0) ∙ keep_same q 0) }

  module _ {d e : ℕ → ℕ} {a b a' b' : List Shares} (ra : Masked d x x' a a') (rb : Masked e y y' b b') where
    kept_carry_step : (q : Bool) (j : ℕ) → j < n - 1 → (c c' : Shares) → KeptCarry q j c c'
        → Coupled (KeptCarry q (suc j)) carry_entries (carry_step (at a j) (at b j) c)
        (carry_step (at a' j) (at b' j) c')
    unfolding plain_carry
    kept_carry_step q j h c c' rc =
        let s = ra.at none none j (omega arith) in
        let t = rb.at none none j (omega arith) in
        coupled-carry_step s.left t.left rc.left s.right t.right rc.right
        (keep-bits q (bits_carry (wx j) (wy j) (sharing-bits rc.left))
        (bits_carry (wx' j) (wy' j) (sharing-bits rc.right)))

    coupled-carries : (q : Bool)
        → Coupled (Turns (KeptCarry q) (suc (n - 1))) ((n - 1) * carry_entries) (carries n a b) (carries n a' b')
    coupled-carries q = coupled-chain (n - 1) none none (kept_carry_step q) (kept_carry_none q)

    -- the three terms of a sum plane are set apart by the sum of their differences
    apart_sum : (q : Bool) {c c' : List Shares} → Turns (KeptCarry q) (suc (n - 1)) c c' → (j : ℕ) → j < n
        → Apart 64 (xor (xor (d j) (e j)) (keep_c q j)) (plain_sum x y j) (plain_sum x' y' j)
        (sum_shares (at a j) (at b j) (at c j))
        (sum_shares (at a' j) (at b' j) (at c' j))
    apart_sum q rc j h =
        apart-xor_shares (apart-xor_shares (ra.at none none j h) (rb.at none none j h))
        (rc.at none none j (omega arith))

  -- the sum planes are fresh
  pub coupled-adder : {d : ℕ → ℕ} → ((j : ℕ) → Bits 64 (d j))
      → Coupled (Turns (λ j. Apart 64 (d j) (plain_sum x y j) (plain_sum x' y' j)) n) (adder_entries n)
      (adder n x y) (adder n x' y')
  unfolding adder adder_entries
  coupled-adder {d} w =
      coupled_bind (masked-x {d = λ j. 0} (λ j. zero_bits)) (λ a a' ra.
      coupled_bind (masked-y {d = d} w) (λ b b' rb.
      coupled_bind (coupled-carries ra rb false) (λ c c' rc.
      coupled-times n (λ j h.
      coupled-sum_plane _ _ _ _ _ _
      (apart_cong (xor_zero (xor 0 (d j)) ∙ zero_xor (d j)) (apart_sum ra rb false rc j h))))))

  abbrev At : ℕ → Type 0
  At i = SameAt i (adder n x y) (adder n x' y')

  same_at_x : (i : ℕ) → i < n * 1 → At i
  unfolding adder
  same_at_x i h =
      same_at_left (silent-times n (λ j g. like-mask_plane _ _) (λ j g. silent-mask_plane (wx j) (wx' j)) i h)
      (λ a a'. coupled_bind (like-mask_planes n y y') (λ b b' t. like-rest n a b a' b'))

  same_at_y : (i : ℕ) → i < n * 1 → At (n * 1 + i)
  unfolding adder
  same_at_y i h =
      same_at_right (like-mask_planes n x x') (λ a a' t.
      same_at_left (silent-times n (λ j g. like-mask_plane _ _) (λ j g. silent-mask_plane (wy j) (wy' j)) i h)
      (λ b b'. like-rest n a b a' b'))

  -- entry i of carry step j: share p of a xor b is equal, and share q of a, of the carry and so of their sum
  same_at_carry : (j i : ℕ) → j < n - 1 → i < carry_entries → At (n * 1 + (n * 1 + (j * carry_entries + i)))
  unfolding adder
  same_at_carry j i h g =
      let p = sum_read i in
      let q = carry_read i in
      same_at_right (masked-x {d = keep_x q} (bits_x q)) (λ a a' ra.
      same_at_right
      (masked-y {d = λ j. xor (keep_x q j) (keep p (xor (x j) (y j)) (xor (x' j) (y' j)))}
      (λ j. xor-bits (bits_x q j) (keep-bits p (xor-bits (wx j) (wy j)) (xor-bits (wx' j) (wy' j))))) (λ b b' rb.
      same_at_left
      (same_at_chain (n - 1) none none (kept_carry_step ra rb q) (kept_carry_none q) j
      (λ j k c c'. like-carry_step _ _ c _ _ c') h
      (λ c c' rc.
      let s = ra.at none none j (omega arith) in
      let t = rb.at none none j (omega arith) in
      same_at_carry_step s.left t.left rc.left s.right t.right rc.right i g
      (share-keep p (apart_cong (xor_cancel _ _) (apart-xor_shares s t)))
      (share-keep q (apart_cong (keep-xor q _ _ _ _) (apart-xor_shares s rc)))))
      (λ c c'. like-sum_planes n a b c a' b' c')))

  same_at_sum : (j i : ℕ) → j < n → i < 2 → At (n * 1 + (n * 1 + ((n - 1) * carry_entries + (j * 2 + i))))
  unfolding adder
  same_at_sum j i h g =
      let q = ltb 0 i in
      same_at_right (masked-x {d = keep_x q} (bits_x q)) (λ a a' ra.
      same_at_right (masked-y {d = keep_y q} (bits_y q)) (λ b b' rb.
      same_at_right (coupled-carries ra rb q) (λ c c' rc.
      same_at_times n j (λ j k. like-sum_plane _ _ _ _ _ _) h
      (same_at_sum_plane _ _ _ _ _ _ i g
      (share-keep q
      (apart_cong (ap (λ (t : ℕ). xor t (keep_c q j)) (keep-xor q _ _ _ _) ∙ keep-xor q _ _ _ _)
      (apart_sum ra rb q rc j h)))))))

  -- every entry, whatever is added
  pub silent-adder : Silent (adder_entries n) (adder n x y) (adder n x' y')
  unfolding adder_entries
  silent-adder =
      cut At (n * 1) _ same_at_x
      (cut (λ i. At (n * 1 + i)) (n * 1) _ same_at_y
      (cut (λ i. At (n * 1 + (n * 1 + i))) ((n - 1) * carry_entries) (n * 2)
      (turns (λ i. At (n * 1 + (n * 1 + i))) (n - 1) carry_entries same_at_carry)
      (turns (λ i. At (n * 1 + (n * 1 + ((n - 1) * carry_entries + i)))) n 2 same_at_sum)))

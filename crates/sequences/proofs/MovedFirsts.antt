-- Over all first shares of import, a list of calls leaves each split key as often as import alone does, with one count:
-- refreshing moves the first shares by a bijection that doesn't depend on the key, and no answer follows them.
use Rattle.std.specs.Prelude.{◌≡◌, Bool, true, false, cond, ℕ, ◌+◌, ◌*◌, ◌%◌, ◌^◌, eqb, replicate}
use Rattle.std.proofs.Math.Path.{refl, sym, ap}
use Rattle.std.proofs.Common.{◌∙◌, arith, eqb-true}
use mathlib.Core.List.{List, [], ◌∷◌}
use Rattle.std.proofs.Math.ListN.{length, get_or}
use Rattle.words.specs.Word.{xor}
use Rattle.words.specs.Bounded.{Below}
use Rattle.words.specs.Residue.{q}
use Rattle.words.specs.Tab.{tab}
use Rattle.ring.specs.Polynomial.{add}
use Rattle.ring.specs.Sum.{length-add, below-add, length-sub, below_sub}
use Rattle.worksheet.specs.Count.{tally}
use Rattle.worksheet.specs.InRange.{tally-below}
use Rattle.worksheet.specs.Matching.{by_xor, by_adding}
use Rattle.worksheet.specs.MovedLists.{tally_moved}
use Rattle.refusals.specs.Refusals.{Answer, number, after, sized}
use Rattle.refusals.specs.RefusalLaws.{number-done}
use Rattle.refusals.specs.Reduced.{reduced}
use Rattle.refusals.specs.ReducedLaws.{reduced-below, below-reduced}
use Rattle.parameters.specs.declared.Edition.{Edition}
use Rattle.parameters.specs.declared.Parameters.{Parameters}
use Rattle.parameters.specs.Ranks.{of_rank}
use Rattle.vectors.specs.Vector.{coefficients}
use Rattle.mlkem.specs.MlKem.{secret_part}
use Rattle.split_key.specs.SplitKey.{SplitKey, second_coeffs, public_of, split}
use Rattle.split_key.specs.SplitLengths.{split_sized}
use Rattle.split_key.specs.KeyState.{KeyState, key_state}
use Rattle.split_key.specs.Sized.{SplitSized}
use Rattle.split_key.specs.Refresh.{xor_words, fresh_key, refresh_answer}
use Rattle.split_key.specs.RefreshAnswerLaws.{Refreshable, refresh_tested}
use Rattle.split_key.specs.RefreshLaws.{length-xor_words, fresh_key-split}
use Rattle.decapsulation.specs.Calls.{decaps_answer}
use Rattle.silence.specs.Claim.{Key}
use Rattle.sequences.specs.Sequence.{Call, decaps, trace, refresh}
use Rattle.sequences.specs.Sequence.{answer_of, carried_out, leaves, leaves_all}
use Rattle.sequences.proofs.SequenceLaws.{after_same, by_rank_answered}
use Rattle.sequences.specs.Claim.{AllTyped}

-- the sum over n first coefficients below q and four first words
abbrev pub over_firsts : ℕ → (List ℕ → List ℕ → ℕ) → ℕ
over_firsts n f = tally (replicate n q) (λ a. tally (replicate 4 (2 ^ 64)) (λ w. f a w))

-- it asks only of those in range
pub over_firsts-below : (n : ℕ) {f g : List ℕ → List ℕ → ℕ}
    → ((a w : List ℕ) → length a ≡ n → Below q a → length w ≡ 4 → Below (2 ^ 64) w → f a w ≡ g a w)
    → over_firsts n f ≡ over_firsts n g
over_firsts-below n h =
    tally-below n q (omega arith) (λ a la ra. tally-below 4 (2 ^ 64) (omega arith) (λ w lw bw. h a w la ra lw bw))

-- ---- first shares moved by masks

module _ (n : ℕ) {m u : List ℕ} (rm : Below q m) (bu : Below (2 ^ 64) u) where
  coeffs_moved : (f : List ℕ → ℕ) → tally (replicate n q) (λ a. f (add a m)) ≡ tally (replicate n q) f
  unfolding add by_adding
  coeffs_moved f =
      tally-below n q (omega arith) (λ a la ra.
      ap (λ (l : ℕ). f (tab l (λ i. (get_or a i 0 + get_or m i 0) % q))) la)
      ∙ tally_moved n (λ i. by_adding (rm.at i)) f

  words_moved : (f : List ℕ → ℕ)
      → tally (replicate 4 (2 ^ 64)) (λ w. f (xor_words w u)) ≡ tally (replicate 4 (2 ^ 64)) f
  unfolding xor_words by_xor
  words_moved f =
      tally-below 4 (2 ^ 64) (omega arith) (λ w lw bw.
      ap (λ (l : ℕ). f (tab l (λ i. xor (get_or w i 0) (get_or u i 0)))) lw)
      ∙ tally_moved 4 (λ i. by_xor (record { lt = bu.at i })) f

  pub firsts_moved : (f : List ℕ → List ℕ → ℕ) → over_firsts n (λ a w. f (add a m) (xor_words w u)) ≡ over_firsts n f
  firsts_moved f =
      coeffs_moved (λ a. tally (replicate 4 (2 ^ 64)) (λ w. f a (xor_words w u)))
      ∙ tally-below n q (omega arith) (λ a la ra. words_moved (f a))

-- ---- a call

-- carried out or not
either : (b : Bool) (P : Bool → Type 0) → (b ≡ true → P true) → (b ≡ false → P false) → P b
either true P x y = x refl
either false P x y = y refl

-- the trace changes nothing
leaves-trace : (h : KeyState) (rank : ℕ) (e : Edition) (ct ws cs : List ℕ) (step : ℕ)
    → leaves h (trace rank e ct ws cs step) ≡ h
unfolding carried_out
leaves-trace h rank e ct ws cs step =
    after_same (λ (s : KeyState). s) (number (answer_of h (trace rank e ct ws cs step))) h h (λ z. refl)

-- what refreshing that is carried out has tested
refreshable : (h : KeyState) (rank : ℕ) (mask_coeffs mask_words : List ℕ)
    → eqb (number (answer_of h (refresh rank mask_coeffs mask_words))) 0 ≡ true
    → Refreshable (of_rank rank) mask_coeffs mask_words h.key.s h.key.z
unfolding answer_of
refreshable h rank mask_coeffs mask_words e =
    refresh_tested (of_rank rank)
    (by_rank_answered rank (λ q. refresh_answer q mask_coeffs mask_words h.key.s h.key.z)
    (number-done _ (eqb-true _ 0 e)))

-- ---- what the answers see of a split key

-- in range for a set, with this public part
pub record Looks (p : Parameters) (public : List ℕ) (key : SplitKey) : Type 0 where
  pub long : SplitSized p key
  pub first : reduced key.s.s0 ≡ true
  pub second : reduced key.s.s1 ≡ true
  pub same : key.public ≡ public

module _ {p : Parameters} {public : List ℕ} (limit : ℕ) where
  -- decapsulation answers alike for two of them
  same_decaps : {key key' : SplitKey} → Looks p public key → Looks p public key'
      → (m rank : ℕ) (e : Edition) (ct ws cs k0 k1 : List ℕ)
      → answer_of (key_state key limit m) (decaps rank e ct ws cs k0 k1)
      ≡ answer_of (key_state key' limit m) (decaps rank e ct ws cs k0 k1)
  unfolding answer_of decaps_answer sized
  same_decaps k k' m rank e ct ws cs k0 k1 =
      let l = k.long in
      let l' = k'.long in
      rw (
        k.same,
        l.s0,
        l.s1,
        l.z0,
        l.z1,
        k.first,
        k.second,
        k'.same,
        l'.s0,
        l'.s1,
        l'.z0,
        l'.z1,
        k'.first,
        k'.second,
      )
      refl

  -- and so does refreshing
  same_refresh : {key key' : SplitKey} → Looks p public key → Looks p public key'
      → (m rank : ℕ) (mask_coeffs mask_words : List ℕ)
      → answer_of (key_state key limit m) (refresh rank mask_coeffs mask_words)
      ≡ answer_of (key_state key' limit m) (refresh rank mask_coeffs mask_words)
  unfolding answer_of refresh_answer sized
  same_refresh k k' m rank mask_coeffs mask_words =
      let l = k.long in
      let l' = k'.long in
      rw (
        l.s0,
        l.s1,
        l.z0,
        l.z1,
        k.first,
        k.second,
        l'.s0,
        l'.s1,
        l'.z0,
        l'.z1,
        k'.first,
        k'.second,
      )
      refl

  fresh_looks : {key : SplitKey} → Looks p public key → (mask_coeffs mask_words : List ℕ)
      → Looks p public (fresh_key key mask_coeffs mask_words)
  unfolding fresh_key
  fresh_looks {key} k mask_coeffs mask_words =
      let l = k.long in
      record {
        long =
            record {
              s0 = length-add key.s.s0 mask_coeffs ∙ l.s0;
              s1 = length-sub key.s.s1 mask_coeffs ∙ l.s1;
              z0 = length-xor_words key.z.s0 mask_words ∙ l.z0;
              z1 = length-xor_words key.z.s1 mask_words ∙ l.z1;
              public = l.public;
            };
        first = below-reduced _ (below-add key.s.s0 mask_coeffs);
        second = below-reduced _ (below_sub key.s.s1 mask_coeffs);
        same = k.same;
      }

  -- ---- the count is one for two of them

  pub count_looks : {key key' : SplitKey} → Looks p public key → Looks p public key' → (m : ℕ) (calls : List Call)
      → (leaves_all (key_state key limit m) calls).count ≡ (leaves_all (key_state key' limit m) calls).count
  unfolding leaves_all carried_out
  count_looks k k' m [] = refl
  count_looks {key} {key'} k k' m (decaps rank e ct ws cs k0 k1 ∷ calls) =
      ap (λ (r : Answer).
      (leaves_all (after (number r) (key_state key limit (m + 1)) (key_state key limit m)) calls).count)
      (same_decaps k k' m rank e ct ws cs k0 k1)
      ∙ either (eqb (number (answer_of (key_state key' limit m) (decaps rank e ct ws cs k0 k1))) 0)
      (λ b.
      (leaves_all (cond b (key_state key limit (m + 1)) (key_state key limit m)) calls).count
      ≡ (leaves_all (cond b (key_state key' limit (m + 1)) (key_state key' limit m)) calls).count)
      (λ e. count_looks k k' (m + 1) calls) (λ e. count_looks k k' m calls)
  count_looks {key} {key'} k k' m (trace rank e ct ws cs step ∷ calls) =
      ap (λ (h : KeyState). (leaves_all h calls).count) (leaves-trace (key_state key limit m) rank e ct ws cs step)
      ∙ count_looks k k' m calls
      ∙ sym
      (ap (λ (h : KeyState). (leaves_all h calls).count) (leaves-trace (key_state key' limit m) rank e ct ws cs step))
  count_looks {key} {key'} k k' m (refresh rank mc mw ∷ calls) =
      ap (λ (r : Answer).
      (leaves_all (after (number r) (key_state (fresh_key key mc mw) limit 0) (key_state key limit m)) calls).count)
      (same_refresh k k' m rank mc mw)
      ∙ either (eqb (number (answer_of (key_state key' limit m) (refresh rank mc mw))) 0)
      (λ b.
      (leaves_all (cond b (key_state (fresh_key key mc mw) limit 0) (key_state key limit m)) calls).count
      ≡ (leaves_all (cond b (key_state (fresh_key key' mc mw) limit 0) (key_state key' limit m)) calls).count)
      (λ e.
      count_looks {key = fresh_key key mc mw} {key' = fresh_key key' mc mw} (fresh_looks k mc mw)
      (fresh_looks k' mc mw) 0 calls)
      (λ e. count_looks k k' m calls)

-- ---- import's splits

module _ {p : Parameters} {dk : List ℕ} (key : Key p dk) where
  pub split_looks : (a w : List ℕ) → length a ≡ 256 * p.k → Below q a → length w ≡ 4
      → Looks p (public_of p dk) (split p dk a w)
  unfolding split second_coeffs
  split_looks a w la ra lw =
      record {
        long = split_sized key.accepts a w la lw;
        first = below-reduced a ra;
        second = below-reduced _ (below_sub (coefficients p.k (secret_part p dk)) a);
        same = refl;
      }

  module _ (limit : ℕ) (F : KeyState → ℕ) where
    abbrev at : ℕ → List ℕ → List ℕ → KeyState
    at m a w = key_state (split p dk a w) limit m

    -- from the count m on; the count behind the calls is that of any key that looks so
    pub moved_firsts : {key₀ : SplitKey} → Looks p (public_of p dk) key₀ → (m : ℕ) (calls : List Call) → AllTyped calls
        → over_firsts (256 * p.k) (λ a w. F (leaves_all (at m a w) calls))
        ≡ over_firsts (256 * p.k) (λ a w. F (at (leaves_all (key_state key₀ limit m) calls).count a w))
    unfolding leaves_all carried_out
    moved_firsts k m [] t = refl
    moved_firsts {key₀} k m (decaps rank e ct ws cs k0 k1 ∷ calls) t =
        over_firsts-below (256 * p.k) (λ a w la ra lw bw.
        ap (λ (r : Answer). F (leaves_all (after (number r) (at (m + 1) a w) (at m a w)) calls))
        (same_decaps limit (split_looks a w la ra lw) k m rank e ct ws cs k0 k1))
        ∙ either (eqb (number (answer_of (key_state key₀ limit m) (decaps rank e ct ws cs k0 k1))) 0)
        (λ b.
        over_firsts (256 * p.k) (λ a w. F (leaves_all (cond b (at (m + 1) a w) (at m a w)) calls))
        ≡ over_firsts (256 * p.k) (λ a w.
        F (at (leaves_all (cond b (key_state key₀ limit (m + 1)) (key_state key₀ limit m)) calls).count a w)))
        (λ e. moved_firsts k (m + 1) calls t.1) (λ e. moved_firsts k m calls t.1)
    moved_firsts {key₀} k m (trace rank e ct ws cs step ∷ calls) t =
        over_firsts-below (256 * p.k) (λ a w la ra lw bw.
        ap (λ (h : KeyState). F (leaves_all h calls)) (leaves-trace (at m a w) rank e ct ws cs step))
        ∙ moved_firsts k m calls t.1
        ∙ ap (λ (h : KeyState). over_firsts (256 * p.k) (λ a w. F (at (leaves_all h calls).count a w)))
        (sym (leaves-trace (key_state key₀ limit m) rank e ct ws cs step))
    moved_firsts {key₀} k m (refresh rank mc mw ∷ calls) t =
        over_firsts-below (256 * p.k) (λ a w la ra lw bw.
        ap (λ (r : Answer). F (leaves_all
        (after (number r) (key_state (fresh_key (split p dk a w) mc mw) limit 0) (at m a w)) calls))
        (same_refresh limit (split_looks a w la ra lw) k m rank mc mw))
        ∙ either (eqb (number (answer_of (key_state key₀ limit m) (refresh rank mc mw))) 0)
        (λ b.
        over_firsts (256 * p.k) (λ a w.
        F (leaves_all (cond b (key_state (fresh_key (split p dk a w) mc mw) limit 0) (at m a w)) calls))
        ≡ over_firsts (256 * p.k) (λ a w.
        F
        (at (leaves_all (cond b (key_state (fresh_key key₀ mc mw) limit 0) (key_state key₀ limit m)) calls).count a
        w)))
        (λ e.
        let x = refreshable (key_state key₀ limit m) rank mc mw e in
        let lm : length mc ≡ 256 * p.k = x.long.mask_coeffs ∙ sym x.long.s0 ∙ k.long.s0 in
        over_firsts-below (256 * p.k) (λ a w la ra lw bw.
        ap (λ (s : SplitKey). F (leaves_all (key_state s limit 0) calls)) (fresh_key-split p dk a w mc mw la lw lm))
        ∙ firsts_moved (256 * p.k) (reduced-below mc x.masks) t.0 (λ a w. F (leaves_all (at 0 a w) calls))
        ∙ moved_firsts k 0 calls t.1
        ∙ ap (λ (n : ℕ). over_firsts (256 * p.k) (λ a w. F (at n a w)))
        (count_looks limit k (fresh_looks limit k mc mw) 0 calls))
        (λ e. moved_firsts k m calls t.1)

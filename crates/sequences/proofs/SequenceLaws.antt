-- What holds of every call holds of every list of calls: the limit stays, and what a call's own record says of the
-- lent buffers and numbers is the state that it leaves in the sequence.
use Rattle.std.specs.Prelude.{◌≡◌, refl, Bool, true, false, cond, List, [], ◌∷◌, ℕ, ◌+◌, eqb, Err}
use Rattle.std.proofs.Common.{sym, ap, ◌∙◌, arith, eqb-true}
use Rattle.worksheet.specs.SharedList.{SharedList}
use Rattle.refusals.specs.declared.Refusal.TheVariants.{NoSuchRank}
use Rattle.refusals.specs.Refusals.{Answer, Done, number, after}
use Rattle.refusals.specs.RefusalLaws.{after_refused}
use Rattle.parameters.specs.declared.Edition.{Edition}
use Rattle.parameters.specs.declared.Parameters.{Parameters}
use Rattle.parameters.specs.Ranks.{is_rank, of_rank}
use Rattle.parameters.specs.ByRank.{ByRank}
use Rattle.split_key.specs.KeyState.{KeyState, key_state}
use Rattle.split_key.specs.Refresh.{fresh_coeffs, fresh_words, fresh_key, refresh_answer, RefreshedBy}
use Rattle.decapsulation.specs.Calls.{decaps_answer, DecapsulatedBy}
use Rattle.sequences.specs.Sequence.{Call, decaps, trace, refresh, by_rank, input_of}
use Rattle.sequences.specs.Sequence.{answer_of, carried_out, leaves, leaves_all}

-- what a call that is carried out doesn't change, no call changes
pub after_same : {A B : Type 0} (f : A → B) (n : ℕ) (new old : A) → (n ≡ 0 → f new ≡ f old)
    → f (after n new old) ≡ f old
after_same {A} {B} f n new old h = go (eqb n 0) refl
  where
    go : (b : Bool) → eqb n 0 ≡ b → f (cond b new old) ≡ f old
    go true e = h (eqb-true n 0 e)
    go false e = refl

-- a call that is carried out was told an accepted rank
pub by_rank_answered : (rank : ℕ) (f : Parameters → Answer) → by_rank rank f ≡ Done → f (of_rank rank) ≡ Done
by_rank_answered rank f e = go (is_rank rank) e
  where
    go : (b : Bool) → cond b (f (of_rank rank)) (Err NoSuchRank) ≡ Done → f (of_rank rank) ≡ Done
    go true e = e
    go false e = absurd (omega (arith, ap number e))

-- ---- the limit

limit-carried_out : (h : KeyState) (c : Call) → (carried_out h c).limit ≡ h.limit
unfolding carried_out
limit-carried_out h (decaps rank e ct words coeffs k0 k1) = refl
limit-carried_out h (trace rank e ct words coeffs step) = refl
limit-carried_out h (refresh rank mask_coeffs mask_words) = refl

pub limit-leaves : (h : KeyState) (c : Call) → (leaves h c).limit ≡ h.limit
limit-leaves h c =
    after_same (λ (s : KeyState). s.limit) (number (answer_of h c)) (carried_out h c) h (λ e. limit-carried_out h c)

pub limit_kept : (h : KeyState) (cs : List Call) → (leaves_all h cs).limit ≡ h.limit
unfolding leaves_all
limit_kept h [] = refl
limit_kept h (c ∷ cs) = limit_kept (leaves h c) cs ∙ limit-leaves h c

-- ---- the calls' own records

-- what a call that is told a rank answers, and what it leaves of something lent
module _ {rank n : ℕ} {Told : Parameters → Type 0} {Kept : Type 0} (b : ByRank rank n Told Kept) where
  told-number : (f : Parameters → Answer) → ((p : Parameters) → Told p → n ≡ number (f p)) → n ≡ number (by_rank rank f)
  told-number f h = go (is_rank rank) refl
    where
      go : (t : Bool) → is_rank rank ≡ t → n ≡ number (cond t (f (of_rank rank)) (Err NoSuchRank))
      go true e = h (of_rank rank) (b.called e)
      go false e = (b.refused e).0

  told-after : {A : Type 0} (new : A) {x old : A} → ((p : Parameters) → Told p → x ≡ after n new old) → (Kept → x ≡ old)
      → x ≡ after n new old
  told-after {A} new {x} {old} h k = go (is_rank rank) refl
    where
      go : (t : Bool) → is_rank rank ≡ t → x ≡ after n new old
      go true e = h (of_rank rank) (b.called e)
      go false e = k (b.refused e).1 ∙ sym (after_refused n new old (λ z. omega (arith, (b.refused e).0)))

module _ (h : KeyState) where
  counted : {n m count : ℕ} → count ≡ after n (h.count + 1) h.count → n ≡ m
      → key_state h.key h.limit count ≡ after m (key_state h.key h.limit (h.count + 1)) h
  counted {n} {m} c e = rw (c, e) (go (eqb m 0))
    where
      go : (b : Bool) → key_state h.key h.limit (cond b (h.count + 1) h.count)
          ≡ cond b (key_state h.key h.limit (h.count + 1)) h
      go true = refl
      go false = refl

  -- decapsulation leaves the count; the split key and the limit are lent to be read
  pub decapsulated_leaves : {rank : ℕ} {e : Edition} {ct words coeffs k0 k1 k0' k1' : List ℕ} {n count : ℕ}
      → DecapsulatedBy e rank (input_of h ct words coeffs) h.limit h.count k0 k1 n count k0' k1'
      → key_state h.key h.limit count ≡ leaves h (decaps rank e ct words coeffs k0 k1)
  unfolding answer_of carried_out
  decapsulated_leaves {e = e} {ct = ct} {words = words} {coeffs = coeffs} {k0 = k0} {k1 = k1} d =
      counted (told-after d (h.count + 1) (λ p x. x.count) (λ k. k.0))
      (told-number d (λ p. decaps_answer e p (input_of h ct words coeffs) h.limit h.count k0 k1) (λ p x. x.answer))

  -- the shares s and z in the place of the state's
  abbrev with : SharedList → SharedList → ℕ → KeyState
  with s z count = key_state (record { s = s; z = z; public = h.key.public }) h.limit count

  renewed : {n m count : ℕ} {s z : SharedList} (s' z' : SharedList) → s ≡ after n s' h.key.s
      → z ≡ after n z' h.key.z → count ≡ after n 0 h.count → n ≡ m → with s z count ≡ after m (with s' z' 0) h
  renewed {n} {m} s' z' es ez ec e = rw (es, ez, ec, e) (go (eqb m 0))
    where
      go : (b : Bool) → with (cond b s' h.key.s) (cond b z' h.key.z) (cond b 0 h.count)
          ≡ cond b (with s' z' 0) h
      go true = refl
      go false = refl

  -- refreshing leaves the shares and the count
  pub refreshed_leaves : {rank : ℕ} {mask_coeffs mask_words : List ℕ} {n count : ℕ} {s z : SharedList}
      → RefreshedBy rank mask_coeffs mask_words h.key.s h.key.z h.count n s z count
      → key_state (record { s = s; z = z; public = h.key.public }) h.limit count
      ≡ leaves h (refresh rank mask_coeffs mask_words)
  unfolding answer_of carried_out fresh_key
  refreshed_leaves {mask_coeffs = mask_coeffs} {mask_words = mask_words} d =
      let s' = fresh_coeffs h.key.s mask_coeffs in
      let z' = fresh_words h.key.z mask_words in
      renewed s' z' (told-after d s' (λ p x. x.s) (λ k. k.0)) (told-after d z' (λ p x. x.z) (λ k. k.1))
      (told-after d 0 (λ p x. x.count) (λ k. k.2))
      (told-number d (λ p. refresh_answer p mask_coeffs mask_words h.key.s h.key.z) (λ p x. x.answer))

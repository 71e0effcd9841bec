-- How much the adder does, and that it adds.
use Rattle.std.specs.Prelude.{ℕ, ◌+◌, ◌-◌, ◌<◌, ◌≡◌, refl}
use Rattle.std.proofs.Common.{ap, arith}
use Rattle.words.specs.Word.{xor, and}
use Rattle.words.specs.Bits.{Bits}
use Rattle.words.specs.WordLaws.{xor-bits, xor-xor_cancel}
use Rattle.words.specs.Plane.{plane}
use Rattle.words.specs.PlaneLaws.{plane-bits}
use Rattle.worksheet.specs.Shares.{Shares}
use Rattle.worksheet.specs.Prog.{◌>>=◌, mask, entry}
use Rattle.worksheet.specs.ProgLaws.{times_cong}
use Rattle.worksheet.specs.Uses.{Uses, ret_u, word_u, enter_u, uses_bind, uses-times, uses-chain, uses_recount}
use Rattle.worksheet.specs.Turns.{Each, each_weaken}
use Rattle.worksheet.specs.Gives.{Gives, ret_g, draw_g, enter_g, gives_bind, gives_weaken, gives-times, gives-chain}
use Rattle.worksheet.specs.Sharing.{none}
use Rattle.worksheet.specs.SharingLaws.{Sharing, sharing-none, sharing-xor_shares}
use Rattle.worksheet.specs.MaskedAndLaws.{uses-masked_and}
use Rattle.worksheet.specs.GatesLaws.{uses-masked_xor}
use Rattle.worksheet.specs.GatesSharing.{sharing-masked_xor, sharing-masked_and}
use Rattle.masked_adder.specs.Adder.{mask_plane, carry_step, sum_plane, at, adder, adder_words}
use Rattle.masked_adder.specs.EntryCounts.{adder_entries, carry_entries}
use Rattle.masked_adder.specs.PlaneSum.{plain_carry, plain_sum, plane_add}

-- it reads the n lowest planes only
pub adder_cong : (n : ℕ) {x x' y y' : ℕ → ℕ} → ((j : ℕ) → j < n → x j ≡ x' j) → ((j : ℕ) → j < n → y j ≡ y' j)
    → adder n x y ≡ adder n x' y'
unfolding adder
adder_cong n e f = rw (times_cong n (λ j h. ap mask_plane (e j h)), times_cong n (λ j h. ap mask_plane (f j h)))

-- ---- how much it does

uses-mask_plane : (x : ℕ) → Uses 1 1 0 (mask_plane x)
unfolding mask_plane mask entry ◌>>=◌
uses-mask_plane x = word_u (λ r. enter_u ret_u)

uses-carry_step : (a b c : Shares) → Uses carry_entries 1 0 (carry_step a b c)
unfolding carry_step
uses-carry_step a b c =
    uses_bind (uses-masked_xor a b)
    (λ x. uses_bind (uses-masked_xor a c) (λ y. uses_bind (uses-masked_and 64 x y) (uses-masked_xor a)))

uses-sum_plane : (a b c : Shares) → Uses 2 0 0 (sum_plane a b c)
unfolding sum_plane entry ◌>>=◌
uses-sum_plane a b c = enter_u (enter_u ret_u)

pub uses-adder : (n : ℕ) (x y : ℕ → ℕ) → Uses (adder_entries n) (adder_words n) 0 (adder n x y)
unfolding adder adder_entries
uses-adder n x y =
    uses_recount refl (omega arith) (omega arith)
    (uses_bind (uses-times n (λ j. uses-mask_plane (x j))) (λ a.
    uses_bind (uses-times n (λ j. uses-mask_plane (y j))) (λ b.
    uses_bind (uses-chain (n - 1) none (λ j c. uses-carry_step (at a j) (at b j) c)) (λ c.
    uses-times n (λ j. uses-sum_plane (at a j) (at b j) (at c j))))))

-- ---- what it joins to

gives-mask_plane : {x : ℕ} → Bits 64 x → Gives (Sharing 64 x) (mask_plane x)
unfolding mask_plane mask entry ◌>>=◌
gives-mask_plane {x} b =
    draw_g (λ r h.
    let k : Bits 64 r = record { lt = h } in
    enter_g (ret_g (record { bits0 = xor-bits b k; bits1 = k; joins = xor-xor_cancel x r })))

module _ {A B C : ℕ} {a b c : Shares} (p : Sharing 64 A a) (q : Sharing 64 B b) (r : Sharing 64 C c) where
  gives-carry_step : Gives (Sharing 64 (xor A (and (xor A B) (xor A C)))) (carry_step a b c)
  unfolding carry_step
  gives-carry_step =
      gives_bind (sharing-masked_xor p q) (λ x s.
      gives_bind (sharing-masked_xor p r) (λ y t. gives_bind (sharing-masked_and s t) (λ z u. sharing-masked_xor p u)))

  gives-sum_plane : Gives (Sharing 64 (xor (xor A B) C)) (sum_plane a b c)
  unfolding sum_plane entry ◌>>=◌
  gives-sum_plane = enter_g (enter_g (ret_g (sharing-xor_shares (sharing-xor_shares p q) r)))

gives-plain_sum : (n : ℕ) {x y : ℕ → ℕ} → ((j : ℕ) → Bits 64 (x j)) → ((j : ℕ) → Bits 64 (y j))
    → Gives (Each (λ j. Sharing 64 (plain_sum x y j)) n) (adder n x y)
unfolding adder plain_carry
gives-plain_sum n {x} {y} wx wy =
    gives_bind (gives-times _ n (λ j h. gives-mask_plane (wx j))) (λ a p.
    gives_bind (gives-times _ n (λ j h. gives-mask_plane (wy j))) (λ b q.
    gives_bind
    (gives-chain (λ j. Sharing 64 (plain_carry x y j)) (n - 1)
    (λ j h c r. gives-carry_step (p.at none j (omega arith)) (q.at none j (omega arith)) r)
    sharing-none) (λ c r.
    gives-times _ n (λ j h. gives-sum_plane (p.at none j h) (q.at none j h) (r.at none j (omega arith))))))

-- 64 numbers in n planes are added
pub gives-adder : (n : ℕ) (v w : ℕ → ℕ)
    → Gives (Each (λ j. Sharing 64 (plane 64 (λ i. v i + w i) j)) n) (adder n (plane 64 v) (plane 64 w))
gives-adder n v w =
    gives_weaken (λ s e. each_weaken (λ j z q. rw (plane_add 64 v w j) at q) e)
    (gives-plain_sum n (plane-bits 64 v) (plane-bits 64 w))

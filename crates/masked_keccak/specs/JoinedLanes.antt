-- Right: the permutation on two shares of a state gives two shares of Keccak-p of the state, whatever masks are drawn.
use Rattle.std.specs.Prelude.{◌≡◌, List, length, get_or}
use Rattle.std.proofs.Common.{sym, ◌∙◌, arith}
use Rattle.std.proofs.Math.Path.{ap, fun_ext}
use Prim.Native.Nat.{ℕ, zero, suc, ◌+◌, ◌*◌, ◌/◌, ◌%◌, ◌<◌}
use Rattle.std.proofs.Math.ListN.{length-set}
use Rattle.std.proofs.Math.Seq.{get_or-set_same, get_or-set_other}
use Rattle.words.specs.Word.{xor}
use Rattle.words.specs.Bits.{Bits}
use Rattle.words.specs.WordLaws.{zero_bits}
use Rattle.words.specs.Tab.{tab}
use Rattle.words.specs.TabLaws.{length-tab, get_or-tab, tab_of}
use Rattle.words.specs.Iterate.{iterate}
use Rattle.keccak_constants.specs.RoundConstants.{constant}
use Rattle.keccak_constants.specs.RoundConstantLaws.{constant-bits}
use Rattle.keccak.specs.KeccakP.{theta, rho, pi, chi, iota, round, keccak_p}
use Rattle.keccak.specs.LinearPass.{pass_at, LaneBits, pass_is}
use Rattle.worksheet.specs.Shares.{Shares}
use Rattle.worksheet.specs.Prog.{◌>>=◌, entry}
use Rattle.worksheet.specs.Turns.{Each}
use Rattle.worksheet.specs.Gives.{Gives, ret_g, enter_g, gives_bind, gives_weaken, gives-loop, gives-times}
use Rattle.worksheet.specs.Couple.{gives-coupled}
use Rattle.worksheet.specs.Sharing.{joined, none}
use Rattle.worksheet.specs.SharingLaws.{Sharing, sharing-xor_public}
use Rattle.worksheet.specs.SharedList.{SharedList, shared_list, shared_at, unzip, joined_list}
use Rattle.masked_keccak.specs.MaskedKeccak.{pass, masked_chi, masked_round, masked_keccak_p}
use Rattle.masked_keccak.specs.SharedLanes.{LaneSharings}
use Rattle.masked_keccak.specs.PassSilence.{sharing_pass}
use Rattle.masked_keccak.specs.ChiSilence.{chi_at, coupled_chi}
use Rattle.masked_keccak.specs.Silence.{with_constant, with_constant_zero, with_constant-suc, iota_at}

-- s is a sharing of the state l: each share is a state of 25 lanes of 64 bits
pub record StateSharing (l : List ℕ) (s : SharedList) : Type 0 where
  pub long0 : length s.s0 ≡ 25
  pub long1 : length s.s1 ≡ 25
  pub bits0 : LaneBits (λ i. get_or s.s0 i 0)
  pub bits1 : LaneBits (λ i. get_or s.s1 i 0)
  pub joins : joined_list s ≡ l

-- ---- as sharings of lanes

pub state_lanes : {l : List ℕ} {s : SharedList} → StateSharing l s → LaneSharings (λ i. get_or l i 0) s
unfolding joined_list
state_lanes {l} {s} a =
    record {
      at = λ i h.
          record {
            bits0 = a.bits0.at i h;
            bits1 = a.bits1.at i h;
            joins = sym (get_or-tab (length s.s0) (λ j. joined (shared_at s j)) i 0 (omega (arith, a.long0)))
                ∙ ap (λ (m : List ℕ). get_or m i 0) a.joins;
          };
    }

pub state_sharing : {l : List ℕ} {s : SharedList} → length l ≡ 25 → length s.s0 ≡ 25 → length s.s1 ≡ 25
    → LaneSharings (λ i. get_or l i 0) s → StateSharing l s
unfolding joined_list
state_sharing {l} {s} e e0 e1 a =
    record {
      long0 = e0;
      long1 = e1;
      bits0 = record { at = λ i h. (a.at i h).bits0 };
      bits1 = record { at = λ i h. (a.at i h).bits1 };
      joins = rw e0 (sym (tab_of 0 l 25 e (λ i h. sym (a.at i h).joins)));
    }

-- ---- the steps

-- the outcome of a pass
gives-pass : (l : List ℕ) → Gives (Each (λ j y. y ≡ pass_at (λ k. get_or l k 0) j) 25) (pass l)
unfolding pass entry
gives-pass l = gives-times _ 25 (λ j h. enter_g (ret_g (pass_is l j)))

gives_chi : {X : ℕ → ℕ} {s : SharedList} → LaneSharings X s
    → Gives (Each (λ j. Sharing 64 (chi_at X j)) 25) (masked_chi s)
gives_chi r =
    gives_weaken (λ c t. record { long = t.1.long; at = λ d j h. (t.1.at d d j h).left })
    (gives-coupled (coupled_chi r r {e = λ k. 0} (record { at = λ k h. zero_bits })))

sharing_iota : {k : ℕ} {X : ℕ → ℕ} {c : List Shares} → Bits 64 k → Each (λ j. Sharing 64 (X j)) 25 c
    → (j : ℕ) → j < 25 → Sharing 64 (iota_at k X j) (shared_at (with_constant k c) j)
sharing_iota {k} {c = c} b t zero h = rw (with_constant_zero k c) (sharing-xor_public b (t.at none 0 h))
sharing_iota {k} {c = c} b t (suc j) h = rw (with_constant-suc k c j h) (t.at none (suc j) h)

-- ---- the round of FIPS 202, lane by lane

length-chi : (s : List ℕ) → length (chi s) ≡ 25
unfolding chi
length-chi s = length-tab 25 _

chi_lane_lem : (s : List ℕ) (j : ℕ) → j < 25 → get_or (chi s) j 0 ≡ chi_at (λ k. get_or s k 0) j
unfolding chi
chi_lane_lem s j h =
    let e : j % 5 + 5 * (j / 5) ≡ j = omega arith in
    get_or-tab 25 _ j 0 h ∙ rw e

module _ (i : ℕ) (l : List ℕ) where
  abbrev before : List ℕ
  before = chi (pi (rho (theta l)))

  before_lane : (j : ℕ) → j < 25 → get_or before j 0 ≡ chi_at (pass_at (λ k. get_or l k 0)) j
  before_lane j h = chi_lane_lem _ j h ∙ ap (λ (X : ℕ → ℕ). chi_at X j) (fun_ext (pass_is l))

  length-round : length (round i l) ≡ 25
  unfolding round iota
  length-round = length-set before 0 _ ∙ length-chi _

  round_lane : (j : ℕ) → j < 25 → get_or (round i l) j 0 ≡ iota_at (constant i) (chi_at (pass_at (λ k. get_or l k 0))) j
  unfolding round iota
  round_lane zero h =
      get_or-set_same before 0 _ 0 (omega (arith, length-chi (pi (rho (theta l)))))
      ∙ ap (λ (x : ℕ). xor x (constant i)) (before_lane 0 h)
  round_lane (suc j) h = get_or-set_other before 0 (suc j) _ 0 (λ e. omega arith) ∙ before_lane (suc j) h

-- ---- the permutation

gives-round : (i : ℕ) {l : List ℕ} {s : SharedList} → StateSharing l s
    → Gives (StateSharing (round i l)) (masked_round i s)
unfolding masked_round entry ◌>>=◌ unzip
gives-round i {l} {s} r =
    gives_bind (gives-pass s.s0) (λ a p.
    gives_bind (gives-pass s.s1) (λ b q.
    gives_bind (gives_chi (passed p q)) (λ c t.
    enter_g (ret_g
    (state_sharing (length-round i l)
    (length-set (tab 25 (λ j. (get_or c j none).s0)) 0 _ ∙ length-tab 25 (λ j. (get_or c j none).s0))
    (length-tab 25 (λ j. (get_or c j none).s1))
    (record { at = λ j h. rw (round_lane i l j h) (sharing_iota (constant-bits i) t j h) }))))))
  where
    passed : {a b : List ℕ} → Each (λ j y. y ≡ pass_at (λ k. get_or s.s0 k 0) j) 25 a
        → Each (λ j y. y ≡ pass_at (λ k. get_or s.s1 k 0) j) 25 b
        → LaneSharings (pass_at (λ k. get_or l k 0)) (shared_list a b)
    passed p q = record { at = λ j h. rw (p.at 0 j h, q.at 0 j h) (sharing_pass (state_lanes r) j h) }

pub gives-masked_keccak_p : {l : List ℕ} {s : SharedList} → StateSharing l s
    → Gives (StateSharing (keccak_p l)) (masked_keccak_p s)
unfolding masked_keccak_p keccak_p iterate
gives-masked_keccak_p {l} r =
    gives-loop (λ j. StateSharing (iterate j round l)) 24 (λ j h t a. gives-round j a) r

-- The states that a chain hands back are those of its first turns.
use Rattle.std.specs.Prelude.{refl, List, [], ◌∷◌, ◌++◌}
use Rattle.std.proofs.Common.{sym, add-one, arith}
use Rattle.std.proofs.Math.Path.{subst}
use Prim.Native.Nat.{ℕ, zero, suc, ◌+◌}
use Rattle.words.specs.Tab.{tab}
use Rattle.words.specs.TabLaws.{get_or-tab}
use Rattle.worksheet.specs.declared.Recorder.{Recorder}
use Rattle.worksheet.specs.Prog.{Prog, loop, chain}
use Rattle.worksheet.specs.Run.{Run, run}
use Rattle.worksheet.specs.RunLaws.{run_bind}
use Rattle.worksheet.specs.Recording.{note_all, note_all_append}
use Rattle.worksheet.specs.Ran.{Ran}
use Rattle.worksheet.specs.RanLoops.{chain_start, chain_turn}

module _ {S : Type 0} (f : ℕ → S → Prog S) (s : S) (r : Recorder) (ws cs : List ℕ) where
  -- the state after n turns
  abbrev pub state_after : ℕ → S
  state_after n = (run (loop n f s) ws cs).value

  as_run : {A : Type 0} (p : Prog A) {r : Recorder} {ws cs : List ℕ}
      → Ran p r ws cs (run p ws cs).value (note_all r (run p ws cs).entries) (run p ws cs).words (run p ws cs).coeffs
  as_run p = record { value = refl; seen = refl; words = refl; coeffs = refl }

  chain-loop : (n : ℕ)
      → Ran (chain n f s) r ws cs (tab (suc n) state_after) (note_all r (run (loop n f s) ws cs).entries)
      (run (loop n f s) ws cs).words (run (loop n f s) ws cs).coeffs
  unfolding loop tab run note_all
  chain-loop zero = chain_start f s
  chain-loop (suc n) =
      let o = run (loop n f s) ws cs in
      let q = run (f n (state_after n)) o.words o.coeffs in
      let h : Ran (chain (n + 1) f s) r ws cs (tab (suc n) state_after ++ q.value ∷ [])
      (note_all (note_all r o.entries) q.entries) q.words q.coeffs =
      chain_turn f s n (chain-loop n) (get_or-tab (suc n) state_after n s (omega arith))
      (as_run (f n (state_after n))) in
      subst
      (λ (u : Run S). Ran (chain (suc n) f s) r ws cs (tab (suc n) state_after ++ u.value ∷ []) (note_all r u.entries)
      u.words u.coeffs)
      (sym (run_bind (loop n f s) (f n) ws cs))
      (rw (note_all_append r o.entries q.entries) (rw (add-one n) at h))

  pub chain-ran : (n : ℕ) {t : S} {r' : Recorder} {ws' cs' : List ℕ} → Ran (loop n f s) r ws cs t r' ws' cs'
      → Ran (chain n f s) r ws cs (tab (suc n) state_after) r' ws' cs'
  chain-ran n h = rw (h.seen, h.words, h.coeffs) at (chain-loop n)

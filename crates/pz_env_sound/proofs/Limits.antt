-- The limits of a script: how many lines there are, and how many values in each.
use Rattle.std.proofs.Common.{◌≡◌, ◌≤◌, ℕ, List, [], ◌∷◌, length, ◌⊎◌, inl, inr, subst}
use Rattle.std.specs.List.{Contains}
use Rattle.std.specs.Coded.{le_prop}
use Rattle.std.proofs.Math.Logic.{∥∥₁_elim}
use Rattle.pz_env_tree.specs.pz_env_script.declared.entry.Entry.{Entry}
use Rattle.pz_env_tree.specs.pz_env_script.declared.entry.Transfer.{Transfer}
use Rattle.pz_env_tree.specs.pz_env_script.Entries.{IsTransfer, sends, receives, count_in}
use Rattle.pz_env_tree.specs.pz_env_script.Scripts.{AreEntries, IsWritten}
use Rattle.pz_env_grown.proofs.Elements.{none_in, in_cases}

few_values : (action : List ℕ) (rest : List (List ℕ)) (t : Transfer) → IsTransfer action rest t → count_in t ≤ 100
few_values _ _ _ (sends words values are few) = few
few_values _ _ _ (receives count few) = few

in_entries : (texts : List (List ℕ)) (es : List Entry) → AreEntries texts es → (e : Entry) → Contains es e → count_in e.transfer ≤ 100
in_entries [] [] are e has = absurd (none_in e has)
in_entries [] (x ∷ es) are e has = absurd are
in_entries (line ∷ texts) [] are e has = absurd are
in_entries (line ∷ texts) (x ∷ es) are e has = by (in_cases x es e has) (in_entries texts es are.1 e)
  where
    by : (x ≡ e) ⊎ Contains es e → (Contains es e → count_in e.transfer ≤ 100) → count_in e.transfer ≤ 100
    by (inl same) rest = subst (λ (y : Entry). count_in y.transfer ≤ 100) same (few_values are.0.are.action are.0.are.rest x.transfer are.0.are.transfer)
    by (inr later) rest = rest later

pub few_entries : (script : List Entry) → ∥ IsWritten script ∥₁ → length script ≤ 100000
few_entries script written = ∥∥₁_elim written le_prop (λ w. w.1.few)

pub few_in_entries : (script : List Entry) → ∥ IsWritten script ∥₁ → (e : Entry) → Contains script e → count_in e.transfer ≤ 100
few_in_entries script written e has = ∥∥₁_elim written le_prop (λ w. in_entries w.1.lines script w.1.are e has)

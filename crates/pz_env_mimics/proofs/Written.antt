-- The lines of a script that a text writes are plain.
use Rattle.std.proofs.Common.{◌≡◌, ◌≢◌, ℕ, suc, List, [], ◌∷◌, All, pos, unsigned_abs, refl, sym, ap, ◌∙◌}
use Rattle.std.specs.Prelude.{ℤ}
use Rattle.std.proofs.lemmas.List.Elements.{All-nil, All-cons}
use Rattle.pz_env_tree.specs.pz_value.declared.value.Value.{Value}
use Rattle.pz_env_tree.specs.pz_env_script.declared.entry.Entry.{Entry}
use Rattle.pz_env_tree.specs.pz_env_script.declared.entry.Transfer.{Transfer}
use Rattle.pz_env_tree.specs.pz_env_script.Literals.{IsLiteral, nothing, truth, falsehood, number, negative, AreLiterals, none, more}
use Rattle.pz_env_tree.specs.pz_env_script.Entries.{IsTransfer, sends, receives, IsEntry, values_in}
use Rattle.pz_env_tree.specs.pz_env_script.Scripts.{AreEntries, IsWritten}
use Rattle.pz_env_tree.specs.pz_env_rules.Environment.{Line, lines_from, lines_of}
use Rattle.pz_env_mimics.specs.Environments.{IsPlain, ArePlain}
use Rattle.pz_env_mimics.proofs.Literals.{IsConstant}

literal_plain : (word : List ℕ) (v : Value) → IsLiteral word v → IsConstant v
literal_plain _ _ nothing = refl
literal_plain _ _ truth = refl
literal_plain _ _ falsehood = refl
literal_plain _ _ (number n low) = refl
literal_plain _ _ (negative n low) = refl

literals_plain : (words : List (List ℕ)) (values : List Value) → AreLiterals words values → All IsConstant values
literals_plain _ _ none = All-nil IsConstant
literals_plain _ _ (more word v words vs is are) =
    All-cons IsConstant v vs (literal_plain word v is) (literals_plain words vs are)

transfer_plain : (action : List ℕ) (words : List (List ℕ)) (transfer : Transfer) → IsTransfer action words transfer → All IsConstant (values_in transfer)
transfer_plain _ _ _ (sends words values are few) = literals_plain words values are
transfer_plain _ _ _ (receives count few) = All-nil IsConstant

entry_plain : (line : List ℕ) (x : Line) → IsEntry line x.entry → IsPlain x
entry_plain line x is = record {
  wait = is.are.waits ∙ ap (λ (z : ℤ). pos (unsigned_abs z)) (sym is.are.waits);
  values = transfer_plain is.are.action is.are.rest x.entry.transfer is.are.transfer;
}

entries_plain : (n : ℕ) (lines : List (List ℕ)) (entries : List Entry) → AreEntries lines entries → All IsPlain (lines_from n entries)
entries_plain n [] [] are = All-nil IsPlain
entries_plain n [] (e ∷ es) are = absurd are
entries_plain n (line ∷ lines) [] are = absurd are
entries_plain n (line ∷ lines) (e ∷ es) are =
    All-cons IsPlain (record { number = n; entry = e }) (lines_from (suc n) es) (entry_plain line (record { number = n; entry = e }) are.0) (entries_plain (suc n) lines es are.1)

some_lines : (entries : List Entry) → entries ≢ [] → lines_of entries ≢ []
some_lines [] some none_there = some refl
some_lines (e ∷ es) some none_there = absurd (apart (lines_from 2 es) (record { number = 1; entry = e }) none_there)
  where
    apart : (xs : List Line) (x : Line) → x ∷ xs ≡ [] → ⊥
    apart xs x e = cc

pub written_plain : (script : List Entry) → IsWritten script → ArePlain (lines_of script)
written_plain script is =
    record { some = some_lines script is.1.some; plain = entries_plain 1 is.1.lines script is.1.are }

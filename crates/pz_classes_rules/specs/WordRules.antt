-- The rules that are broken at a word.
use Rattle.std.specs.Prelude.{ℕ, IsTrue}
use Rattle.pz_classes_code.specs.pz_syntax.Classes.{DeclTree, ModelTree}
use Rattle.pz_check_violations.specs.declared.violation.Violation.{Violation}
use Rattle.pz_check_violations.specs.Order.{violation}
use Rattle.pz_classes_mentions.specs.declared.mention.Mention.{Mention}
use Rattle.pz_classes_mentions.specs.declared.local_scope.LocalScope.{LocalScope}
use Rattle.pz_classes_rules.specs.Words.{Mentions, place}
use Rattle.pz_classes_rules.specs.NameRules.{breaks_c5, breaks_c6, breaks_c12, breaks_c13, breaks_c18, breaks_c21, breaks_c22}
use Rattle.pz_classes_rules.specs.CallRules.{breaks_c7, breaks_c8, breaks_c9, breaks_c10, breaks_c11}

pub data BreaksWord (m : ModelTree) : Violation → Type 0 where
  c5 : (c : ℕ) (d : DeclTree) (p : LocalScope) (x : Mention) → Mentions m c d p x → IsTrue (breaks_c5 m x) → BreaksWord m (violation 5 (place x))
  c6 : (c : ℕ) (d : DeclTree) (p : LocalScope) (x : Mention) → Mentions m c d p x → IsTrue (breaks_c6 m c d p.locals x) → BreaksWord m (violation 6 (place x))
  c7 : (c : ℕ) (d : DeclTree) (p : LocalScope) (x : Mention) → Mentions m c d p x → IsTrue (breaks_c7 m c x) → BreaksWord m (violation 7 (place x))
  c8 : (c : ℕ) (d : DeclTree) (p : LocalScope) (x : Mention) → Mentions m c d p x → IsTrue (breaks_c8 m x) → BreaksWord m (violation 8 (place x))
  c9 : (c : ℕ) (d : DeclTree) (p : LocalScope) (x : Mention) → Mentions m c d p x → IsTrue (breaks_c9 m c x) → BreaksWord m (violation 9 (place x))
  c10 : (c : ℕ) (d : DeclTree) (p : LocalScope) (x : Mention) → Mentions m c d p x → IsTrue (breaks_c10 m c x) → BreaksWord m (violation 10 (place x))
  c11 : (c : ℕ) (d : DeclTree) (p : LocalScope) (x : Mention) → Mentions m c d p x → IsTrue (breaks_c11 m c d x) → BreaksWord m (violation 11 (place x))
  c12 : (c : ℕ) (d : DeclTree) (p : LocalScope) (x : Mention) → Mentions m c d p x → IsTrue (breaks_c12 m x) → BreaksWord m (violation 12 (place x))
  c13 : (c : ℕ) (d : DeclTree) (p : LocalScope) (x : Mention) → Mentions m c d p x → IsTrue (breaks_c13 m x) → BreaksWord m (violation 13 (place x))
  c18 : (c : ℕ) (d : DeclTree) (p : LocalScope) (x : Mention) → Mentions m c d p x → IsTrue (breaks_c18 x) → BreaksWord m (violation 18 (place x))
  c21 : (c : ℕ) (d : DeclTree) (p : LocalScope) (x : Mention) → Mentions m c d p x → IsTrue (breaks_c21 d x) → BreaksWord m (violation 21 (place x))
  c22 : (c : ℕ) (d : DeclTree) (p : LocalScope) (x : Mention) → Mentions m c d p x → IsTrue (breaks_c22 d x) → BreaksWord m (violation 22 (place x))

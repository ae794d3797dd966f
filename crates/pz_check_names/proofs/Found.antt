-- The list of violations at words has those of the rules and no others.
use Rattle.std.proofs.Common.{◌≡◌, refl, ℕ, ◌≤◌, IsTrue, List, [], length, Option, Some, None, ◌⊎◌, inl, inr}
use Rattle.std.specs.List.{Contains}
use Rattle.std.specs.Option.{option_map_or}
use Rattle.pz_classes_code.specs.pz_syntax.Classes.{DeclTree, ModelTree}
use Rattle.pz_classes_mentions.specs.declared.mention.Mention.{Mention}
use Rattle.pz_classes_mentions.specs.declared.local_scope.LocalScope.{LocalScope}
use Rattle.pz_classes_mentions.specs.Declarations.{parts}
use Rattle.pz_check_violations.specs.declared.violation.Violation.{Violation}
use Rattle.pz_check_violations.specs.Order.{violation}
use Rattle.pz_check_violations.specs.Least.{LeastOf, listed, least_from, Member}
use Rattle.pz_check_violations.proofs.Leasts as leasts
use Rattle.pz_check_violations.proofs.Members.{member_left, member_right, member_cases, is_listed}
use Rattle.pz_classes.specs.pz_classes_rules.Numbers.{declaration}
use Rattle.pz_classes.specs.pz_classes_rules.Words.{Mentions, place}
use Rattle.pz_classes.specs.pz_classes_rules.WordRules.{BreaksWord, c5, c6, c7, c8, c9, c10, c11, c12, c13, c18, c21, c22}
use Rattle.pz_classes.specs.pz_classes_rules.NameRules.{breaks_c5, breaks_c6, breaks_c12, breaks_c13, breaks_c18, breaks_c21, breaks_c22}
use Rattle.pz_classes.specs.pz_classes_rules.CallRules.{breaks_c7, breaks_c8, breaks_c9, breaks_c10, breaks_c11}
use Rattle.pz_check_names.specs.devices.Misuses.{of_name, of_word, at_word, of_part, of_class, of_number, misuses}
use Rattle.pz_check_names.proofs.Classes.{is_numbered}
use Rattle.pz_check_names.proofs.Lists.{first_or, only, is_first, in_flat, of_flat}

module _ (m : ModelTree) where
  module _ (c : ℕ) (d : DeclTree) (p : LocalScope) (x : Mention) (at : Mentions m c d p x) where
    abbrev Rule : ℕ → Violation
    Rule n = violation n (place x)

    name_sound : (v : Violation) → Member v (of_name m c d p.locals x) → BreaksWord m v
    name_sound v =
        first_or (BreaksWord m) (breaks_c5 m x) (Rule 5) v _ (c5 c d p x at)
        (first_or (BreaksWord m) (breaks_c6 m c d p.locals x) (Rule 6) v _ (c6 c d p x at)
        (first_or (BreaksWord m) (breaks_c7 m c x) (Rule 7) v _ (c7 c d p x at)
        (first_or (BreaksWord m) (breaks_c8 m x) (Rule 8) v _ (c8 c d p x at)
        (first_or (BreaksWord m) (breaks_c9 m c x) (Rule 9) v _ (c9 c d p x at)
        (only (BreaksWord m) (breaks_c10 m c x) (Rule 10) v (c10 c d p x at))))))

    word_sound : (v : Violation) → Member v (of_word m c d x) → BreaksWord m v
    word_sound v =
        first_or (BreaksWord m) (breaks_c11 m c d x) (Rule 11) v _ (c11 c d p x at)
        (first_or (BreaksWord m) (breaks_c12 m x) (Rule 12) v _ (c12 c d p x at)
        (first_or (BreaksWord m) (breaks_c13 m x) (Rule 13) v _ (c13 c d p x at)
        (first_or (BreaksWord m) (breaks_c18 x) (Rule 18) v _ (c18 c d p x at)
        (first_or (BreaksWord m) (breaks_c21 d x) (Rule 21) v _ (c21 c d p x at)
        (only (BreaksWord m) (breaks_c22 d x) (Rule 22) v (c22 c d p x at))))))

    at_sound : (v : Violation) → Member v (at_word m c d p.locals x) → BreaksWord m v
    at_sound v found = by_half (member_cases v (of_name m c d p.locals x) (of_word m c d x) found)
      where
        by_half : Member v (of_name m c d p.locals x) ⊎ Member v (of_word m c d x) → BreaksWord m v
        by_half (inl here) = name_sound v here
        by_half (inr here) = word_sound v here

  class_sound : (c : ℕ) (d : DeclTree) (v : Violation) → declaration m c ≡ Some d → Member v (of_class m c d) → BreaksWord m v
  class_sound c d v here found =
      of_flat (BreaksWord m) (of_part m c d) (parts d) v
      (λ p there. of_flat (BreaksWord m) (at_word m c d p.locals) p.mentions v
      (λ x said. at_sound c d p x (record { declared = here; part_of = there; mentioned = said }) v)) found

  number_sound : (c : ℕ) (v : Violation) → Member v (of_number m c) → BreaksWord m v
  number_sound c v = by_declaration (declaration m c) refl
    where
      by_declaration : (o : Option DeclTree) → declaration m c ≡ o → Member v (option_map_or (of_class m c) o []) → BreaksWord m v
      by_declaration None is found = absurd found
      by_declaration (Some d) is found = class_sound c d v is found

  -- Now all of these classes, of which each of the model is one.
  module _ (cs : List ℕ) (whole : (c : ℕ) → c ≤ length m.decls → Contains cs c) where
    sound : (v : Violation) → Member v (misuses m cs) → BreaksWord m v
    sound v = of_flat (BreaksWord m) (of_number m) cs v (λ c there found. number_sound c v found)

    at_class : (c : ℕ) (d : DeclTree) (v : Violation) → declaration m c ≡ Some d → Member v (of_class m c d) → Member v (misuses m cs)
    at_class c d v here found =
        let first : Member v (of_number m c) = rw here found in
        in_flat (of_number m) cs c v (whole c (is_numbered m c d here)) first

    -- and a word of it
    module _ (c : ℕ) (d : DeclTree) (p : LocalScope) (x : Mention) (at : Mentions m c d p x) where
      of_rule : (v : Violation) → Member v (at_word m c d p.locals x) → Member v (misuses m cs)
      of_rule v found = at_class c d v at.declared
          (in_flat (of_part m c d) (parts d) p v at.part_of (in_flat (at_word m c d p.locals) p.mentions x v at.mentioned found))

      in_name : (v : Violation) → Member v (of_name m c d p.locals x) → Member v (misuses m cs)
      in_name v found = of_rule v (member_left v (of_name m c d p.locals x) (of_word m c d x) found)

      in_word : (v : Violation) → Member v (of_word m c d x) → Member v (misuses m cs)
      in_word v found = of_rule v (member_right v (of_name m c d p.locals x) (of_word m c d x) found)

      abbrev At : ℕ → Violation
      At n = violation n (place x)

      is_c5 : IsTrue (breaks_c5 m x) → Member (At 5) (misuses m cs)
      is_c5 does = in_name (At 5) (is_first (breaks_c5 m x) (At 5) _ does)

      is_c6 : IsTrue (breaks_c6 m c d p.locals x) → Member (At 6) (misuses m cs)
      is_c6 does = in_name (At 6) (member_right (At 6) (listed (breaks_c5 m x) (At 5)) _ (is_first (breaks_c6 m c d p.locals x) (At 6) _ does))

      is_c7 : IsTrue (breaks_c7 m c x) → Member (At 7) (misuses m cs)
      is_c7 does = in_name (At 7) (member_right (At 7) (listed (breaks_c5 m x) (At 5)) _ (member_right (At 7) (listed (breaks_c6 m c d p.locals x) (At 6)) _
          (is_first (breaks_c7 m c x) (At 7) _ does)))

      is_c8 : IsTrue (breaks_c8 m x) → Member (At 8) (misuses m cs)
      is_c8 does = in_name (At 8) (member_right (At 8) (listed (breaks_c5 m x) (At 5)) _ (member_right (At 8) (listed (breaks_c6 m c d p.locals x) (At 6)) _
          (member_right (At 8) (listed (breaks_c7 m c x) (At 7)) _ (is_first (breaks_c8 m x) (At 8) _ does))))

      is_c9 : IsTrue (breaks_c9 m c x) → Member (At 9) (misuses m cs)
      is_c9 does = in_name (At 9) (member_right (At 9) (listed (breaks_c5 m x) (At 5)) _ (member_right (At 9) (listed (breaks_c6 m c d p.locals x) (At 6)) _
          (member_right (At 9) (listed (breaks_c7 m c x) (At 7)) _ (member_right (At 9) (listed (breaks_c8 m x) (At 8)) _ (is_first (breaks_c9 m c x) (At 9) _ does)))))

      is_c10 : IsTrue (breaks_c10 m c x) → Member (At 10) (misuses m cs)
      is_c10 does = in_name (At 10) (member_right (At 10) (listed (breaks_c5 m x) (At 5)) _ (member_right (At 10) (listed (breaks_c6 m c d p.locals x) (At 6)) _
          (member_right (At 10) (listed (breaks_c7 m c x) (At 7)) _ (member_right (At 10) (listed (breaks_c8 m x) (At 8)) _
          (member_right (At 10) (listed (breaks_c9 m c x) (At 9)) _ (is_listed (breaks_c10 m c x) (At 10) does))))))

      is_c11 : IsTrue (breaks_c11 m c d x) → Member (At 11) (misuses m cs)
      is_c11 does = in_word (At 11) (is_first (breaks_c11 m c d x) (At 11) _ does)

      is_c12 : IsTrue (breaks_c12 m x) → Member (At 12) (misuses m cs)
      is_c12 does = in_word (At 12) (member_right (At 12) (listed (breaks_c11 m c d x) (At 11)) _ (is_first (breaks_c12 m x) (At 12) _ does))

      is_c13 : IsTrue (breaks_c13 m x) → Member (At 13) (misuses m cs)
      is_c13 does = in_word (At 13) (member_right (At 13) (listed (breaks_c11 m c d x) (At 11)) _ (member_right (At 13) (listed (breaks_c12 m x) (At 12)) _
          (is_first (breaks_c13 m x) (At 13) _ does)))

      is_c18 : IsTrue (breaks_c18 x) → Member (At 18) (misuses m cs)
      is_c18 does = in_word (At 18) (member_right (At 18) (listed (breaks_c11 m c d x) (At 11)) _ (member_right (At 18) (listed (breaks_c12 m x) (At 12)) _
          (member_right (At 18) (listed (breaks_c13 m x) (At 13)) _ (is_first (breaks_c18 x) (At 18) _ does))))

      is_c21 : IsTrue (breaks_c21 d x) → Member (At 21) (misuses m cs)
      is_c21 does = in_word (At 21) (member_right (At 21) (listed (breaks_c11 m c d x) (At 11)) _ (member_right (At 21) (listed (breaks_c12 m x) (At 12)) _
          (member_right (At 21) (listed (breaks_c13 m x) (At 13)) _ (member_right (At 21) (listed (breaks_c18 x) (At 18)) _ (is_first (breaks_c21 d x) (At 21) _ does)))))

      is_c22 : IsTrue (breaks_c22 d x) → Member (At 22) (misuses m cs)
      is_c22 does = in_word (At 22) (member_right (At 22) (listed (breaks_c11 m c d x) (At 11)) _ (member_right (At 22) (listed (breaks_c12 m x) (At 12)) _
          (member_right (At 22) (listed (breaks_c13 m x) (At 13)) _ (member_right (At 22) (listed (breaks_c18 x) (At 18)) _
          (member_right (At 22) (listed (breaks_c21 d x) (At 21)) _ (is_listed (breaks_c22 d x) (At 22) does))))))

    complete : (v : Violation) → BreaksWord m v → Member v (misuses m cs)
    complete _ (c5 c d p x at does) = is_c5 c d p x at does
    complete _ (c6 c d p x at does) = is_c6 c d p x at does
    complete _ (c7 c d p x at does) = is_c7 c d p x at does
    complete _ (c8 c d p x at does) = is_c8 c d p x at does
    complete _ (c9 c d p x at does) = is_c9 c d p x at does
    complete _ (c10 c d p x at does) = is_c10 c d p x at does
    complete _ (c11 c d p x at does) = is_c11 c d p x at does
    complete _ (c12 c d p x at does) = is_c12 c d p x at does
    complete _ (c13 c d p x at does) = is_c13 c d p x at does
    complete _ (c18 c d p x at does) = is_c18 c d p x at does
    complete _ (c21 c d p x at does) = is_c21 c d p x at does
    complete _ (c22 c d p x at does) = is_c22 c d p x at does

    -- what the search for the least finds
    pub least_found : LeastOf (BreaksWord m) (least_from None (misuses m cs))
    least_found = leasts.least_found (BreaksWord m) (misuses m cs) sound complete

-- Notes that are kept, as one is made and as it is taken back.
use Rattle.std.proofs.Common.{◌≡◌, refl, ◌∙◌, Bool, true, false, cond, List, [], ◌∷◌, ◌++◌, length, Option, Some, if◌then◌else◌, arith}
use Rattle.std.specs.Cmp.{IsEquivalence}
use Rattle.std.specs.Option.{option_flatten}
use Rattle.std.proofs.lemmas.List.{length_push}
use Rattle.pz_check_scopes.specs.Scopes.{Note, latest}
use Rattle.pz_check_scopes.specs.devices.Holding.{changes_of}
use Rattle.pz_check_scopes.specs.declared.nested.Change.{Change}
use Rattle.pz_check_scopes.proofs.Values.{latest_equal}

module _ {K V : Type 0} (eq : K → K → Bool) where
  pub length_changes : (notes : List (Note K V)) → length (changes_of eq notes) ≡ length notes
  length_changes [] = refl
  length_changes (n ∷ ns) = rw (length_push (changes_of eq ns) (record { key = n.key; before = latest eq ns n.key }), length_changes ns) omega arith

  -- what one note more changed
  pub changes_more : (n : Note K V) (notes : List (Note K V)) (changes : List (Change K V)) (before : Option V)
      → changes ≡ changes_of eq notes → before ≡ latest eq notes n.key → changes ++ record { key = n.key; before = before } ∷ [] ≡ changes_of eq (n ∷ notes)
  changes_more n notes changes before is told = rw (is, told) refl

  module _ (laws : IsEquivalence eq) where
    module _ (before after : K → Option (Option V)) (n : Note K V) (notes : List (Note K V)) where
      -- after a note
      pub noted : ((q : K) → option_flatten (before q) ≡ latest eq notes q) → ((q : K) → after q ≡ cond (eq n.key q) (Some (Some n.value)) (before q))
          → (q : K) → option_flatten (after q) ≡ latest eq (n ∷ notes) q
      noted said written q = rw (written q, laws.symm n.key q) (by_key (eq q n.key))
        where
          by_key : (b : Bool) → option_flatten (cond b (Some (Some n.value)) (before q)) ≡ (if b then Some n.value else latest eq notes q)
          by_key true = refl
          by_key false = said q

      -- after a note is taken back
      pub taken_back : ((q : K) → option_flatten (before q) ≡ latest eq (n ∷ notes) q) → ((q : K) → after q ≡ cond (eq n.key q) (Some (latest eq notes n.key)) (before q))
          → (q : K) → option_flatten (after q) ≡ latest eq notes q
      taken_back said written q = rw (written q) (by_key (eq n.key q) refl)
        where
          by_key : (b : Bool) → eq n.key q ≡ b → option_flatten (cond b (Some (latest eq notes n.key)) (before q)) ≡ latest eq notes q
          by_key true same = latest_equal eq laws notes n.key q same
          by_key false other =
              let apart : eq q n.key ≡ false = laws.symm q n.key ∙ other in
              let rest : latest eq (n ∷ notes) q ≡ latest eq notes q = rw apart refl in
              said q ∙ rest

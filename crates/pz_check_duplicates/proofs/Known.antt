-- What is noted of the names of open classes, as classes are opened and closed.
use Rattle.std.proofs.Common.{◌≡◌, refl, sym, ap, ◌∙◌, ℕ, zero, suc, ◌-◌, Bool, true, false, List, [], ◌∷◌, ◌++◌, append-nil, append_assoc, length, drop, Option, Some, None, Bor, if◌then◌else◌}
use Rattle.std.specs.Option.{option_or}
use Rattle.std.specs.Str.{bytes_eq}
use Rattle.std.proofs.lemmas.Slice.Eq.{bytes_eq-Decides}
use Rattle.pz_classes.specs.pz_syntax.declared.tokens.Pos.{Pos}
use Rattle.pz_classes.specs.pz_syntax.declared.names.Id.{Id}
use Rattle.pz_check_scopes.specs.Scopes.{Note, latest, value_in, outermost}
use Rattle.pz_check_scopes.specs.devices.Holding.{Holds}
use Rattle.pz_check_scopes.specs.declared.nested.Nested.{Nested}
use Rattle.pz_check_duplicates.specs.devices.Earlier.{earlier}
use Rattle.pz_check_duplicates.specs.devices.Inheriting.{earliest}
use Rattle.pz_check_duplicates.specs.devices.Knowing.{spread, same_bytes, Scope, Tells, Knows}
use Rattle.pz_check_duplicates.specs.devices.Names.{id_place}
use Rattle.pz_check_duplicates.proofs.EarliestPlaces.{earliest_append}

-- what is noted for a key is its earliest place
pub told : (names : List (List Id)) (scopes : List Scope) → Tells names scopes → (key : Bor (List ℕ)) → value_in same_bytes scopes key ≡ earliest None key.now (spread names)
told [] [] tells key = refl
told [] (scope ∷ scopes) tells key = absurd tells
told (own ∷ outer) [] tells key = absurd tells
told (own ∷ outer) (scope ∷ scopes) tells key = tells.0 key

pub known_first : (names : List (List Id)) (known : Nested (Bor (List ℕ)) Pos) (key : Bor (List ℕ)) (first : Option Pos)
    → Knows names known → ((scopes : List Scope) → Holds same_bytes scopes known → first ≡ value_in same_bytes scopes key) → first ≡ earliest None key.now (spread names)
known_first names known key first kept gives = gives kept.scopes kept.holds ∙ told names kept.scopes kept.tells key

-- ---- a class is opened

pub knows_opened : (names : List (List Id)) (before after : Nested (Bor (List ℕ)) Pos)
    → ((scopes : List Scope) → Holds same_bytes scopes before → Holds same_bytes ([] ∷ scopes) after) → Knows names before → Knows ([] ∷ names) after
knows_opened names before after opens kept = record {
  scopes = [] ∷ kept.scopes;
  holds = opens kept.scopes kept.holds;
  tells = (λ key. told names kept.scopes kept.tells key ∙ ap (earliest None key.now) (sym (append-nil (spread names))), kept.tells);
}

-- ---- a name is noted

abbrev note_of : Bor (List ℕ) → Pos → Note (Bor (List ℕ)) Pos
note_of key place = record { key = key; value = place }

-- each key has its earliest place still
noted_tells : (names : List Id) (noted : Bor (List ℕ)) (x : Id) (place : Pos) (scope : Scope) (scopes : List Scope)
    → noted.now ≡ x.name → earlier (earliest None x.name names) x.pos ≡ Some place
    → ((key : Bor (List ℕ)) → value_in same_bytes (scope ∷ scopes) key ≡ earliest None key.now names)
    → (key : Bor (List ℕ)) → value_in same_bytes ((note_of noted place ∷ scope) ∷ scopes) key ≡ earliest None key.now (names ++ (x ∷ []))
noted_tells names noted x place scope scopes named is tells key =
    by_test (bytes_eq key.now x.name) refl ∙ sym (earliest_append id_place (λ y. bytes_eq key.now y.name) None names (x ∷ []))
  where
    Now : Bool → Option Pos
    Now t = option_or (if t then Some place else latest same_bytes scope key) (value_in same_bytes scopes key)

    Then : Bool → Option Pos
    Then t = if t then earlier (earliest None key.now names) x.pos else earliest None key.now names

    chosen : (t : Bool) → bytes_eq key.now x.name ≡ t → Now t ≡ Then t
    chosen true same =
        let key_is : key.now ≡ x.name = (bytes_eq-Decides key.now x.name).0 same in
        sym is ∙ ap (λ (name : List ℕ). earlier (earliest None name names) x.pos) (sym key_is)
    chosen false other = tells key

    by_test : (t : Bool) → bytes_eq key.now x.name ≡ t → Now (bytes_eq key.now noted.now) ≡ Then (bytes_eq key.now x.name)
    by_test t is_so = rw (named, is_so) (chosen t is_so)

pub knows_noted : (own : List Id) (outer : List (List Id)) (noted : Bor (List ℕ)) (x : Id) (place : Pos) (first : Option Pos) (before after : Nested (Bor (List ℕ)) Pos)
    → noted.now ≡ x.name → earlier first x.pos ≡ Some place → first ≡ earliest None x.name (spread outer ++ own)
    → ((scope : Scope) (scopes : List Scope) → Holds same_bytes (scope ∷ scopes) before → Holds same_bytes ((record { key = noted; value = place } ∷ scope) ∷ scopes) after)
    → Knows (own ∷ outer) before → Knows ((own ++ (x ∷ [])) ∷ outer) after
knows_noted own outer noted x place first before after named is first_is notes kept = by_scopes kept.scopes kept.holds kept.tells
  where
    by_scopes : (scopes : List Scope) → Holds same_bytes scopes before → Tells (own ∷ outer) scopes → Knows ((own ++ (x ∷ [])) ∷ outer) after
    by_scopes [] holds tells = absurd tells
    by_scopes (scope ∷ scopes) holds tells = record {
      scopes = (note_of noted place ∷ scope) ∷ scopes;
      holds = notes scope scopes holds;
      tells = (
        λ key. noted_tells (spread outer ++ own) noted x place scope scopes named (rw first_is at is) tells.0 key ∙ ap (earliest None key.now) (append_assoc (spread outer) own (x ∷ [])),
        tells.1,
      );
    }

-- ---- classes are closed

tells_length : (names : List (List Id)) (scopes : List Scope) → Tells names scopes → length names ≡ length scopes
tells_length [] [] tells = refl
tells_length [] (scope ∷ scopes) tells = absurd tells
tells_length (own ∷ outer) [] tells = absurd tells
tells_length (own ∷ outer) (scope ∷ scopes) tells = ap suc (tells_length outer scopes tells.1)

tells_outer : (n : ℕ) (names : List (List Id)) (scopes : List Scope) → Tells names scopes → Tells (drop n names) (drop n scopes)
tells_outer zero names scopes tells = tells
tells_outer (suc n) [] [] tells = tt
tells_outer (suc n) [] (scope ∷ scopes) tells = absurd tells
tells_outer (suc n) (own ∷ outer) [] tells = absurd tells
tells_outer (suc n) (own ∷ outer) (scope ∷ scopes) tells = tells_outer n outer scopes tells.1

pub knows_closed : (names : List (List Id)) (depth : ℕ) (before after : Nested (Bor (List ℕ)) Pos)
    → ((scopes : List Scope) → Holds same_bytes scopes before → Holds same_bytes (outermost depth scopes) after) → Knows names before → Knows (outermost depth names) after
knows_closed names depth before after closes kept = record {
  scopes = outermost depth kept.scopes;
  holds = closes kept.scopes kept.holds;
  tells = rw (tells_length names kept.scopes kept.tells) (tells_outer (length kept.scopes - depth) names kept.scopes kept.tells);
}

-- Parcels of small states, computed from the definitions.
use Rattle.std.proofs.Common.{◌≡◌, refl, subst, lit<, ℕ, zero, suc, true, false, List, [], ◌∷◌, Some}
use Rattle.std.specs.Prelude.{pos, negsuc, slice_get, codes}
use Rattle.std.proofs.lemmas.Fmt.{decimal_digit}
use Rattle.pz_state.specs.pz_value.declared.value.Value.{Value}
use Rattle.pz_state.specs.pz_value.declared.value.Value.TheVariants as value
use Rattle.pz_state.specs.Objects.{ObjectView}
use Rattle.pz_state.specs.States.{StateView}
use Rattle.pz_copy.specs.References.{IsIn}
use Rattle.pz_copy.specs.Parcels.{ParcelView}
use Rattle.pz_copy.specs.Packing.{mentioned, IsParcelOf}
use Rattle.std.specs.Prelude.{take}
use Rattle.pz_copy.specs.Unpacking.{unpacked_values}
use Rattle.pz_copy.specs.ParcelText.{parcel_text}

abbrev node : List Value → ObjectView
node items = record { class = record { 0 = 0 }; items = items }

abbrev state_of : List ObjectView → StateView
state_of objects = record { vars = []; frames = []; objects = objects }

abbrev parcel_of : List Value → List ObjectView → ParcelView
parcel_of values objects = record { values = values; objects = objects }

abbrev names : List (List ℕ)
names = codes "N" ∷ []

-- Two objects that name each other, b before a in the state

abbrev pair : List ObjectView
pair = node (value.Ref 1 ∷ value.Int (pos 2) ∷ []) ∷ node (value.Ref 0 ∷ value.Int (pos 1) ∷ []) ∷ []

abbrev five : List ObjectView
five = node [] ∷ node [] ∷ node [] ∷ node [] ∷ node [] ∷ []

abbrev lone : List ObjectView
lone = node [] ∷ node [] ∷ node (value.Ref 2 ∷ []) ∷ []

none : (i r : ℕ) → slice_get {X = ℕ} [] i ≡ Some r → ⊥
none i r h = cc

pair_grounded : (i r : ℕ) → slice_get (1 ∷ 0 ∷ []) i ≡ Some r → IsIn r (mentioned (state_of pair) (value.Ref 1 ∷ value.Ref 0 ∷ []) (take i (1 ∷ 0 ∷ [])))
pair_grounded zero r h = let same : 1 ≡ r = cc in subst (λ (k : ℕ). IsIn k (1 ∷ 0 ∷ [])) same refl
pair_grounded (suc zero) r h = let same : 0 ≡ r = cc in subst (λ (k : ℕ). IsIn k (1 ∷ 0 ∷ 0 ∷ [])) same refl
pair_grounded (suc (suc i)) r h = absurd (none i r h)

pub pair_packed : IsParcelOf (state_of pair) (value.Ref 1 ∷ value.Ref 0 ∷ []) (parcel_of (value.Ref 0 ∷ value.Ref 1 ∷ []) (node (value.Ref 1 ∷ value.Int (pos 1) ∷ []) ∷ node (value.Ref 0 ∷ value.Int (pos 2) ∷ []) ∷ []))
pair_packed = record { listed = 1 ∷ 0 ∷ []; listing = record { equation = refl; grounded = pair_grounded }; values = refl; objects = refl }

pair_text : parcel_text names (parcel_of (value.Ref 0 ∷ value.Ref 1 ∷ []) (node (value.Ref 1 ∷ value.Int (pos 1) ∷ []) ∷ node (value.Ref 0 ∷ value.Int (pos 2) ∷ []) ∷ [])) ≡ codes "(#0,#1){#0=N[#1,1];#1=N[#0,2]}"
pair_text = rw (decimal_digit 0 (lit< tt), decimal_digit 1 (lit< tt), decimal_digit 2 (lit< tt)) refl

-- behind five objects they are the sixth and the seventh
pair_unpacked : unpacked_values (state_of five) (parcel_of (value.Ref 0 ∷ value.Ref 1 ∷ []) []) ≡ value.Ref 5 ∷ value.Ref 6 ∷ []
pair_unpacked = refl

-- An object that two values name, which holds itself

itself_grounded : (i r : ℕ) → slice_get (2 ∷ []) i ≡ Some r → IsIn r (mentioned (state_of lone) (value.Ref 2 ∷ value.Ref 2 ∷ []) (take i (2 ∷ [])))
itself_grounded zero r h = let same : 2 ≡ r = cc in subst (λ (k : ℕ). IsIn k (2 ∷ 2 ∷ [])) same refl
itself_grounded (suc i) r h = absurd (none i r h)

itself_packed : IsParcelOf (state_of lone) (value.Ref 2 ∷ value.Ref 2 ∷ []) (parcel_of (value.Ref 0 ∷ value.Ref 0 ∷ []) (node (value.Ref 0 ∷ []) ∷ []))
itself_packed = record { listed = 2 ∷ []; listing = record { equation = refl; grounded = itself_grounded }; values = refl; objects = refl }

itself_text : parcel_text names (parcel_of (value.Ref 0 ∷ value.Ref 0 ∷ []) (node (value.Ref 0 ∷ []) ∷ [])) ≡ codes "(#0,#0){#0=N[#0]}"
itself_text = rw (decimal_digit 0 (lit< tt)) refl

-- each sort of value, and each escape
values_text_row : parcel_text names (parcel_of (value.Nil ∷ value.Bool true ∷ value.Bool false ∷ value.Int (negsuc 6) ∷ value.Char 39 ∷ value.Char 34 ∷ value.Str (34 ∷ 39 ∷ 92 ∷ 10 ∷ 126 ∷ 127 ∷ 255 ∷ []) ∷ []) []) ≡ codes "(nil,true,false,-7,'\\'','\"',\"\\\"'\\\\\\x0a~\\x7f\\xff\")"
values_text_row = rw (decimal_digit 7 (lit< tt)) refl

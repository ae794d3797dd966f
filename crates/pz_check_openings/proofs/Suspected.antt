-- What begins with itself in a class does so through suspects alone.
use Rattle.std.proofs.Common.{◌≡◌, refl, ap, ◌∙◌, ℕ, zero, suc, ◌≤◌, max, fold, Bool, true, false, ◌&&◌, ◌||◌, not, nat_le, List, [], ◌∷◌, length, Option, Some, None, slice_get, if◌then◌else◌, arith}
use Rattle.std.specs.List.{Contains}
use Rattle.std.specs.Option.{option_map}
use Rattle.std.proofs.lemmas.Bool.Decides.{nat_tests}
use Rattle.std.proofs.lemmas.Option.{slice_get-map}
use Rattle.pz_classes.specs.pz_syntax.declared.names.Id.{Id}
use Rattle.pz_classes.specs.pz_syntax.Classes.{ProcessMethodTree, ModelTree}
use Rattle.pz_classes.specs.pz_check_violations.declared.violation.Violation.{Violation}
use Rattle.pz_classes.specs.pz_classes_rules.declared.method_id.Counts.TheVariants.{Process}
use Rattle.pz_classes.specs.pz_classes_rules.Ancestors.{ancestors}
use Rattle.pz_classes.specs.pz_classes_rules.Members.{grouped}
use Rattle.pz_classes.specs.pz_classes_rules.Methods.{Signature, method_id, process_signature}
use Rattle.pz_classes_openings.specs.Methods.{method_at}
use Rattle.pz_classes_openings.specs.Openings.{begun_at, called, Leads}
use Rattle.pz_classes_openings.specs.Openings as opening
use Rattle.pz_classes_openings.specs.OpeningRules.{BreaksC23}
use Rattle.pz_classes_openings.specs.OpeningRules as rule
use Rattle.pz_classes_openings.proofs.Found.{found_process}
use Rattle.pz_check_openings.specs.declared.outline.Outline.{Outline}
use Rattle.pz_check_openings.specs.devices.Outlines.{outline_of, outlines}
use Rattle.pz_check_openings.specs.devices.Settling.{is_plain}
use Rattle.pz_check_openings.specs.devices.Suspects.{highest, is_suspect, kept, AreSuspects}
use Rattle.pz_check_openings.specs.devices.Through.{Through, itself, further, RoundThrough, round_through}
use Rattle.pz_check_openings.proofs.Bounds.{plain_so}
use Rattle.pz_check_openings.proofs.Listed.{outline_there}

-- the highest is no lower than any
module _ (rank : List ℕ → ℕ) where
  starts : (a : ℕ) (xs : List Id) → a ≤ fold (λ b x. max b (rank x.name)) a xs
  starts a [] = omega arith
  starts a (x ∷ xs) = let rest : max a (rank x.name) ≤ fold (λ b y. max b (rank y.name)) (max a (rank x.name)) xs = starts (max a (rank x.name)) xs in omega (arith, rest)

  among_highest : (a : ℕ) (xs : List Id) (x : Id) → Contains xs x → rank x.name ≤ fold (λ b y. max b (rank y.name)) a xs
  among_highest a [] x (i, below, is) = absurd (omega arith)
  among_highest a (y ∷ xs) x (zero, below, is) =
      let rest : max a (rank y.name) ≤ fold (λ b z. max b (rank z.name)) (max a (rank y.name)) xs = starts (max a (rank y.name)) xs in
      let same : rank y.name ≡ rank x.name = ap (λ (z : Id). rank z.name) is in
      omega (arith, rest, same)
  among_highest a (y ∷ xs) x (suc i, below, is) = among_highest (max a (rank y.name)) xs x (i, omega arith, is)

le_of : (a b : ℕ) → nat_le a b ≡ true → a ≤ b
le_of a b is = grind (arith, nat_tests)

is_le : (a b : ℕ) → a ≤ b → nat_le a b ≡ true
is_le a b is = grind (arith, nat_tests)

module _ (m : ModelTree) (those : List (Option Outline)) (s : AreSuspects (outlines m) those) where
  abbrev pub Kept : ℕ → Type 0
  Kept k = (o : Outline) × (slice_get those k ≡ Some (Some o))

  stays : (k : ℕ) (o : Outline) → slice_get (outlines m) k ≡ Some (Some o) → is_suspect s.rank o ≡ true → Kept k
  stays k o at is = (
    o,
    ap (λ (l : List (Option Outline)). slice_get l k) s.are ∙ (slice_get-map (kept (is_suspect s.rank)) (outlines m) k
        ∙ (ap (option_map (kept (is_suspect s.rank))) at ∙ ap (λ (b : Bool). Some (if b then Some o else None)) is)),
  )

  -- a call with which a method begins has no higher rank than the method's name, and where it has no
  -- lower one the method is a suspect
  step : (c n : ℕ) (x y : Id) → called m c x ≡ Some (method_id n) → Contains (begun_at m n) y → (s.rank y.name ≤ s.rank x.name) × (s.rank x.name ≤ s.rank y.name → Kept n)
  step c n x y is among = by_method (found_process m (record { name = x.name; counts = Process 0 0 }) c n 0 0 refl is)
    where
      by_method : (r : ProcessMethodTree) × (method_at m n ≡ Some r) × (record { name = x.name; counts = Process 0 0 } ≡ process_signature r) → (s.rank y.name ≤ s.rank x.name) × (s.rank x.name ≤ s.rank y.name → Kept n)
      by_method (r, at, same) = (omega (arith, within, top, named), λ above. stays n (outline_of r) there (suspected above))
        where
          there : slice_get (outlines m) n ≡ Some (Some (outline_of r))
          there = outline_there m n r at

          plain : is_plain (outline_of r) ≡ true
          plain = plain_so (length (grouped r.inputs)) (length (grouped r.outputs)) (ap (λ (t : Signature). t.counts) same)

          named : s.rank x.name ≡ s.rank r.name.name
          named = ap (λ (t : Signature). s.rank t.name) same

          here : Contains (outline_of r).begun y
          here = rw at at among

          within : s.rank y.name ≤ highest s.rank (outline_of r).begun
          within = among_highest s.rank 0 (outline_of r).begun y here

          both : (b q : Bool) → b ≡ true → (not b || q) ≡ true → q ≡ true
          both true q is either = either
          both false q is either = cc

          top : highest s.rank (outline_of r).begun ≤ s.rank r.name.name
          top = le_of (highest s.rank (outline_of r).begun) (s.rank r.name.name) (both (is_plain (outline_of r)) (nat_le (highest s.rank (outline_of r).begun) (s.rank r.name.name)) plain (s.ordered n (outline_of r) there))

          joined : (b q : Bool) → b ≡ true → q ≡ true → (b && q) ≡ true
          joined true q is holds = holds
          joined false q is holds = cc

          suspected : s.rank x.name ≤ s.rank y.name → is_suspect s.rank (outline_of r) ≡ true
          suspected above = joined (is_plain (outline_of r)) (nat_le (s.rank r.name.name) (highest s.rank (outline_of r).begun)) plain
              (is_le (s.rank r.name.name) (highest s.rank (outline_of r).begun) (omega (arith, within, named, above)))

  -- the call by which one comes to a method at last
  last_call : (c n k : ℕ) → Leads m c n k → Id → Id
  last_call c n _ opening.itself y = y
  last_call c n _ (opening.further b l x before among finds) y = x

  last_called : (c n k : ℕ) (leads : Leads m c n k) (y : Id) → called m c y ≡ Some (method_id n) → called m c (last_call c n k leads y) ≡ Some (method_id k)
  unfolding last_call
  last_called c n _ opening.itself y is = is
  last_called c n _ (opening.further b l x before among finds) y is = finds

  down : (c n k : ℕ) (leads : Leads m c n k) (y : Id) → called m c y ≡ Some (method_id n) → s.rank (last_call c n k leads y).name ≤ s.rank y.name
  unfolding last_call
  down c n _ opening.itself y is = omega arith
  down c n _ (opening.further b l x before among finds) y is =
      let lower : s.rank x.name ≤ s.rank (last_call c n b before y).name = (step c b (last_call c n b before y) x (last_called c n b before y is) among).0 in
      let rest : s.rank (last_call c n b before y).name ≤ s.rank y.name = down c n b before y is in
      omega (arith, lower, rest)

  through : (c n k : ℕ) (leads : Leads m c n k) (y : Id) → called m c y ≡ Some (method_id n) → s.rank y.name ≤ s.rank (last_call c n k leads y).name → Kept k → Through Kept m (ancestors m c) n k
  unfolding last_call
  through c n _ opening.itself y is level kind = itself kind
  through c n _ (opening.further b l x before among finds) y is level kind =
      let one = step c b (last_call c n b before y) x (last_called c n b before y is) among in
      let lower : s.rank x.name ≤ s.rank (last_call c n b before y).name = one.0 in
      let rest : s.rank (last_call c n b before y).name ≤ s.rank y.name = down c n b before y is in
      let kind_b : Kept b = one.1 (omega (arith, rest, level)) in
      further b l x (through c n b before y is (omega (arith, level, lower)) kind_b) among finds kind

  pub through_suspects : (v : Violation) → BreaksC23 m v → (c : ℕ) × RoundThrough Kept m (ancestors m c) v
  through_suspects _ (rule.round c k n d x declared process has among finds leads) =
      let one = step c k (last_call c n k leads x) x (last_called c n k leads x finds) among in
      let kind : Kept k = one.1 (down c n k leads x finds) in
      (c, round_through k n x among finds (through c n k leads x finds one.0 kind))

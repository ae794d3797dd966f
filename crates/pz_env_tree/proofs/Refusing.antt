-- The first line that is refused is the one that is computed.
use Rattle.std.proofs.Common.{◌≡◌, ◌⊎◌, inl, inr, refl, sym, ap, subst, ◌∙◌, ℕ, zero, suc, ◌+◌, ◌<◌, ◌≤◌, Bool, true, false, ◌&&◌, ◌||◌, not, List, [], ◌∷◌, Option, Some, None, arith}
use Rattle.std.specs.Prelude.{nat_le, nat_lt, if◌then◌else◌, is_some, slice_get, slice_index_or, bytes_eq}
use Rattle.std.specs.List.{list_any, Any, Contains}
use Rattle.std.proofs.lemmas.Bool.{leb-true, le-leb, ltb-true, lt-ltb}
use Rattle.std.proofs.lemmas.List.Folds.{Any-from_list_any, list_any-from_Any}
use Rattle.std.proofs.lemmas.Slice.Eq.{bytes_eq-Decides}
use Rattle.pz_env_rules.specs.pz_syntax.Classes.{ModelTree}
use Rattle.pz_env_rules.specs.pz_classes_rules.Numbers.{class}
use Rattle.pz_env_rules.specs.pz_classes_rules.Members.{ports, spelled}
use Rattle.pz_env_rules.specs.pz_classes_rules.SizeRules.{systems, system_size}
use Rattle.pz_env_rules.specs.pz_bind_rules.Nest.{class_of, instances_at, channels_at}
use Rattle.pz_env_rules.specs.pz_bind_rules.Connections.{names_inner}
use Rattle.pz_env_rules.specs.pz_env_script.declared.entry.Entry.{Entry}
use Rattle.pz_env_tree.specs.Names.{class_name, instance_name}
use Rattle.pz_env_tree.specs.Refusals.{full_processes, most_channels, IsFull, has_class, has_instance, has_processes, has_channels, IsPort, IsBadEntry, no_port, taken, IsFirstRefused, no_room, bad_entry}
use Rattle.pz_env_tree.specs.devices.Refused.{is_named_so, is_crowded, is_wide, is_full, has_port, is_port, is_taken, is_bad, first_bad, refused}

-- Tests

either : (a b : Bool) → a || b ≡ true → (a ≡ true) ⊎ (b ≡ true)
either true b e = inl refl
either false b e = inr e

or_first : (a b : Bool) → a ≡ true → a || b ≡ true
or_first true b e = refl
or_first false b e = absurd cc

or_second : (a b : Bool) → b ≡ true → a || b ≡ true
or_second true b e = refl
or_second false b e = e

both : (a b : Bool) → a ≡ true → b ≡ true → a && b ≡ true
both true b ea eb = eb
both false b ea eb = ea

split : (a b : Bool) → a && b ≡ true → (a ≡ true) × (b ≡ true)
split true b e = (refl, e)
split false b e = absurd cc

false_true : false ≡ true → ⊥
false_true e = cc

not_false : (a : Bool) → a ≡ false → not a ≡ true
not_false true e = absurd cc
not_false false e = refl

not_true : (a : Bool) → not a ≡ true → a ≡ true → ⊥
not_true true e = λ (h : true ≡ true). false_true e
not_true false e = λ (h : false ≡ true). false_true h

never : (a : Bool) → (a ≡ true → ⊥) → a ≡ false
never true apart = absurd (apart refl)
never false apart = refl

any_more : {X : Type 0} (P Q : X → Type 0) (xs : List X) → ((x : X) → P x → Q x) → Any P xs → Any Q xs
any_more P Q xs more h = (h.0, h.1, h.2, h.3, more h.1 h.4)

same_bytes : (xs ys : List ℕ) → bytes_eq xs ys ≡ true → xs ≡ ys
same_bytes xs ys e = (bytes_eq-Decides xs ys).0 e

bytes_same : (xs ys : List ℕ) → xs ≡ ys → bytes_eq xs ys ≡ true
bytes_same xs ys e = (bytes_eq-Decides xs ys).1 e

contained : (names : List (List ℕ)) (name : List ℕ) → list_any (λ p. bytes_eq p name) names ≡ true → Contains names name
contained names name e =
    let at = Any-from_list_any (λ p. bytes_eq p name) names e in
    (at.0, at.2, subst (λ (p : List ℕ). slice_index_or names at.0 p ≡ p) (same_bytes at.1 name at.4) at.3)

contains : (names : List (List ℕ)) (name : List ℕ) → Contains names name → list_any (λ p. bytes_eq p name) names ≡ true
contains names name is = list_any-from_Any (λ p. bytes_eq p name) names (is.0, name, is.1, is.2, bytes_same name name refl)

some_number : (o : Option ℕ) → is_some o ≡ true → (n : ℕ) × (o ≡ Some n)
some_number None e = absurd cc
some_number (Some n) e = (n, refl)

module _ (m : ModelTree) where
  -- Room

  full_is : is_full m ≡ true → IsFull m
  full_is e = first (either (is_some (class m class_name)) (is_named_so m || (is_crowded m || is_wide m)) e)
    where
      third : (is_crowded m ≡ true) ⊎ (is_wide m ≡ true) → IsFull m
      third (inl h) =
          has_processes (any_more (λ s. nat_le full_processes (system_size m s).processes ≡ true) (λ s. full_processes ≤ (system_size m s).processes) (systems m) (λ s h. leb-true full_processes (system_size m s).processes h) (Any-from_list_any (λ s. nat_le full_processes (system_size m s).processes) (systems m) h))
      third (inr h) =
          has_channels (any_more (λ s. nat_lt most_channels (system_size m s).channels ≡ true) (λ s. most_channels < (system_size m s).channels) (systems m) (λ s h. ltb-true most_channels (system_size m s).channels h) (Any-from_list_any (λ s. nat_lt most_channels (system_size m s).channels) (systems m) h))

      second : (is_named_so m ≡ true) ⊎ (is_crowded m || is_wide m ≡ true) → IsFull m
      second (inl h) =
          has_instance (any_more (λ x. bytes_eq x.name.name instance_name ≡ true) (λ x. x.name.name ≡ instance_name) (instances_at m []) (λ x h. same_bytes x.name.name instance_name h) (Any-from_list_any (λ x. bytes_eq x.name.name instance_name) (instances_at m []) h))
      second (inr h) = third (either (is_crowded m) (is_wide m) h)

      first : (is_some (class m class_name) ≡ true) ⊎ (is_named_so m || (is_crowded m || is_wide m) ≡ true) → IsFull m
      first (inl h) = let at = some_number (class m class_name) h in has_class at.0 at.1
      first (inr h) = second (either (is_named_so m) (is_crowded m || is_wide m) h)

  full_found : IsFull m → is_full m ≡ true
  full_found (has_class n is) = or_first (is_some (class m class_name)) (is_named_so m || (is_crowded m || is_wide m)) (ap is_some is)
  full_found (has_instance is) =
      or_second (is_some (class m class_name)) (is_named_so m || (is_crowded m || is_wide m))
      (or_first (is_named_so m) (is_crowded m || is_wide m)
      (list_any-from_Any (λ x. bytes_eq x.name.name instance_name) (instances_at m []) (any_more (λ x. x.name.name ≡ instance_name) (λ x. bytes_eq x.name.name instance_name ≡ true) (instances_at m []) (λ x h. bytes_same x.name.name instance_name h) is)))
  full_found (has_processes is) =
      or_second (is_some (class m class_name)) (is_named_so m || (is_crowded m || is_wide m))
      (or_second (is_named_so m) (is_crowded m || is_wide m)
      (or_first (is_crowded m) (is_wide m)
      (list_any-from_Any (λ s. nat_le full_processes (system_size m s).processes) (systems m) (any_more (λ s. full_processes ≤ (system_size m s).processes) (λ s. nat_le full_processes (system_size m s).processes ≡ true) (systems m) (λ s h. le-leb full_processes (system_size m s).processes h) is))))
  full_found (has_channels is) =
      or_second (is_some (class m class_name)) (is_named_so m || (is_crowded m || is_wide m))
      (or_second (is_named_so m) (is_crowded m || is_wide m)
      (or_second (is_crowded m) (is_wide m)
      (list_any-from_Any (λ s. nat_lt most_channels (system_size m s).channels) (systems m) (any_more (λ s. most_channels < (system_size m s).channels) (λ s. nat_lt most_channels (system_size m s).channels ≡ true) (systems m) (λ s h. lt-ltb most_channels (system_size m s).channels h) is))))

  -- Entries

  port_is : (e : Entry) → is_port m e ≡ true → IsPort m e
  port_is e h =
      any_more
      (λ x. bytes_eq x.name.name e.instance && has_port m e x ≡ true)
      (λ x. (x.name.name ≡ e.instance) × Contains (spelled (ports m (class_of m x))) e.port)
      (instances_at m [])
      (λ x k. (let parts = split (bytes_eq x.name.name e.instance) (has_port m e x) k in
      (same_bytes x.name.name e.instance parts.0, contained (spelled (ports m (class_of m x))) e.port parts.1)))
      (Any-from_list_any (λ x. bytes_eq x.name.name e.instance && has_port m e x) (instances_at m []) h)

  port_found : (e : Entry) → IsPort m e → is_port m e ≡ true
  port_found e is =
      list_any-from_Any
      (λ x. bytes_eq x.name.name e.instance && has_port m e x)
      (instances_at m [])
      (any_more
      (λ x. (x.name.name ≡ e.instance) × Contains (spelled (ports m (class_of m x))) e.port)
      (λ x. bytes_eq x.name.name e.instance && has_port m e x ≡ true)
      (instances_at m [])
      (λ x k. both (bytes_eq x.name.name e.instance) (has_port m e x) (bytes_same x.name.name e.instance k.0) (contains (spelled (ports m (class_of m x))) e.port k.1))
      is)

  bad_is : (e : Entry) → is_bad m e ≡ true → IsBadEntry m e
  bad_is e h = by (either (not (is_port m e)) (is_taken m e) h)
    where
      by : (not (is_port m e) ≡ true) ⊎ (is_taken m e ≡ true) → IsBadEntry m e
      by (inl k) = no_port (λ is. not_true (is_port m e) k (port_found e is))
      by (inr k) = taken (Any-from_list_any (names_inner e.instance e.port) (channels_at m []) k)

  bad_found : (e : Entry) → IsBadEntry m e → is_bad m e ≡ true
  bad_found e (no_port none) =
      or_first (not (is_port m e)) (is_taken m e) (not_false (is_port m e) (never (is_port m e) (λ h. none (port_is e h))))
  bad_found e (taken is) =
      or_second (not (is_port m e)) (is_taken m e) (list_any-from_Any (names_inner e.instance e.port) (channels_at m []) is)

  -- Lines

  pub record FirstBad (n : ℕ) (es : List Entry) (line : ℕ) : Type 0 where
    pub number : ℕ
    pub entry : Entry
    pub is_line : line ≡ n + number
    pub there : slice_get es number ≡ Some entry
    pub bad : is_bad m entry ≡ true
    pub before : (k : ℕ) (x : Entry) → k < number → slice_get es k ≡ Some x → is_bad m x ≡ false

  some_same : {A : Type 0} (x y : A) → Some x ≡ Some y → x ≡ y
  some_same x y e = cc

  first_is : (n : ℕ) (es : List Entry) (line : ℕ) → first_bad m n es ≡ Some line → FirstBad n es line
  first_is n [] line e = absurd cc
  first_is n (x ∷ es) line e = by (is_bad m x) refl e (λ h. first_is (suc n) es line h)
    where
      by : (b : Bool) → is_bad m x ≡ b → (if b then Some n else first_bad m (suc n) es) ≡ Some line → (first_bad m (suc n) es ≡ Some line → FirstBad (suc n) es line) → FirstBad n (x ∷ es) line
      by true is h next =
          let here : n ≡ line = some_same n line h in
          record { number = 0; entry = x; is_line = omega arith; there = refl; bad = is; before = λ k y low at. absurd (omega (arith, low)) }
      by false is h next =
          let later = next h in
          let at : line ≡ suc n + later.number = later.is_line in
          record { number = suc later.number; entry = later.entry; is_line = omega arith; there = later.there; bad = later.bad; before = earlier later }
        where
          earlier : (later : FirstBad (suc n) es line) (k : ℕ) (y : Entry) → k < suc later.number → slice_get (x ∷ es) k ≡ Some y → is_bad m y ≡ false
          earlier later zero y low at = ap (is_bad m) (sym (some_same x y at)) ∙ is
          earlier later (suc k) y low at = later.before k y (omega (arith, low)) at

  first_found : (n i : ℕ) (es : List Entry) (e : Entry) → slice_get es i ≡ Some e → is_bad m e ≡ true → ((k : ℕ) (x : Entry) → k < i → slice_get es k ≡ Some x → is_bad m x ≡ false) → first_bad m n es ≡ Some (n + i)
  first_found n i [] e at bad before = absurd cc
  first_found n zero (x ∷ es) e at bad before =
      let here : n ≡ n + 0 = omega arith in
      ap (λ (b : Bool). if b then Some n else first_bad m (suc n) es) (ap (is_bad m) (some_same x e at) ∙ bad) ∙ ap (λ (k : ℕ). Some k) here
  first_found n (suc i) (x ∷ es) e at bad before =
      let later : suc n + i ≡ n + suc i = omega arith in
      ap (λ (b : Bool). if b then Some n else first_bad m (suc n) es) (before 0 x (omega arith) refl)
      ∙ first_found (suc n) i es e at bad (λ k y low is. before (suc k) y (omega (arith, low)) is)
      ∙ ap (λ (k : ℕ). Some k) later

  pub refused_is : (script : List Entry) (line : ℕ) → refused m script ≡ Some line → IsFirstRefused m script line
  refused_is script line e = by (is_full m) refl e
    where
      by : (b : Bool) → is_full m ≡ b → (if b then Some 1 else first_bad m 1 script) ≡ Some line → IsFirstRefused m script line
      by true is h = subst (IsFirstRefused m script) (some_same 1 line h) (no_room (full_is is))
      by false is h =
          let first = first_is 1 script line h in
          subst
          (IsFirstRefused m script)
          (sym first.is_line)
          (bad_entry
          first.number
          first.entry
          (λ full. false_true (sym is ∙ full_found full))
          first.there
          (bad_is first.entry first.bad)
          (λ k x low at bad. false_true (sym (first.before k x low at) ∙ bad_found x bad)))

  pub refused_found : (script : List Entry) (line : ℕ) → IsFirstRefused m script line → refused m script ≡ Some line
  refused_found script _ (no_room is) = ap (λ (b : Bool). if b then Some 1 else first_bad m 1 script) (full_found is)
  refused_found script _ (bad_entry i e room at bad before) =
      ap (λ (b : Bool). if b then Some 1 else first_bad m 1 script) (never (is_full m) (λ h. room (full_is h)))
      ∙ first_found 1 i script e at (bad_found e bad) (λ k x low is. never (is_bad m x) (λ h. before k x low is (bad_is x h)))

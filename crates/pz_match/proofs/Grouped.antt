-- Groups whose tallies change, and further groups.
use Rattle.std.proofs.Common.{◌≡◌, ◌≢◌, ◌≤◌, ◌<◌, ◌+◌, ◌-◌, ◌⊎◌, inl, inr, refl, sym, ◌∙◌, ap, subst, ℕ, zero, suc, Bool, true, false, nat_eq, List, [], ◌∷◌, ◌++◌, length, take, get_or, set, Option, Some, None, if◌then◌else◌, arith}
use Rattle.std.specs.Prelude.{All, Contains, sum, sum_by, replicate}
use Rattle.std.specs.List.{slice_get}
use Rattle.std.specs.Option.{option_map_or, MatchOption}
use Rattle.std.specs.Prelude.{Result, Ok, Err, OnOk}
use Rattle.std.proofs.lemmas.Bool.{eqb-true, eqb-false, ne_eqb, cases_eq}
use Rattle.std.proofs.lemmas.List.{length-append, length-set, get_or-set_same, get_or-set_other, length-replicate, get_or_append_left, get_or-append_right, get_or_default, take_all}
use Rattle.std.proofs.lemmas.List.Elements.{All-head, All-tail, All-nil, All-cons, All-append, All-weaker}
use Rattle.std.proofs.lemmas.List.Sums.{sum_by-cons, sum_by-append}
use Rattle.std.proofs.lemmas.Option.{slice_get_within, slice_get-get_or, get_or_from_slice_get, same_Some}
use Rattle.pz_match_lists.specs.Increasing.{list_at}
use Rattle.pz_match.specs.declared.groups.Tally.{Tally}
use Rattle.pz_match.specs.declared.groups.Group.{Group}
use Rattle.pz_match.specs.devices.Lists.{upto}
use Rattle.pz_match.specs.devices.Tallies.{GroupsView, HasKey, GroupsHold, AreListed, Follows, SameTallies, Moves, Alike, tally_at, no_tally, taken_in, taken_on, on_wire, with_tally, plus, pick, only_in}
use Rattle.pz_match.proofs.Sums.{sum_same, front, at_place, get_left, get_right}
use Rattle.pz_match.proofs.Counting.{all_upto}

-- The counts of wires

counts_at : (counts : List ℕ) (i : ℕ) → at_place (λ x. x) counts i ≡ get_or counts i 0
counts_at [] i = refl
counts_at (x ∷ xs) zero = refl
counts_at (x ∷ xs) (suc i) = counts_at xs i

module _ (groups : List Group) (counts : List ℕ) (troubles : ℕ) (holds : GroupsHold groups counts troubles) where
  pub counts_sum : (k : ℕ) → k ≤ length counts → sum (take k counts) ≡ sum_by (on_wire groups) (upto k)
  counts_sum k le =
      front (λ x. x) counts k le
      ∙ sum_same (at_place (λ x. x) counts) (on_wire groups) (upto k) (all_upto (λ i. at_place (λ x. x) counts i ≡ on_wire groups i) k (λ i lt. counts_at counts i ∙ holds.counted i (omega (arith, lt, le))))

  pub found_wire : (o : Option (ℕ × ℕ)) (k : ℕ) → MatchOption o (sum counts ≤ k) (λ x. (x.0 < length counts) × (sum (take x.0 counts) + x.1 ≡ k) × (x.1 < get_or counts x.0 0))
      → MatchOption o (sum_by (on_wire groups) (upto (length counts)) ≤ k) (λ x. (x.0 < length counts) × (sum_by (on_wire groups) (upto x.0) + x.1 ≡ k) × (x.1 < on_wire groups x.0))
  found_wire None k past =
      let all : sum counts ≡ sum_by (on_wire groups) (upto (length counts)) = ap sum (sym (take_all (length counts) counts (omega arith))) ∙ counts_sum (length counts) (omega arith) in
      omega (arith, past, all)
  found_wire (Some x) k is =
      let front : sum (take x.0 counts) ≡ sum_by (on_wire groups) (upto x.0) = counts_sum x.0 (omega (arith, is.0)) in
      (is.0, omega (arith, is.1, front), omega (arith, is.2, holds.counted x.0 is.0))

-- One tally is replaced

abbrev retallied : Group → Tally → Group
retallied x t = record { wire = x.wire; message = x.message; count = x.count; tally = t }

pub set_tally : (groups : List Group) (n : ℕ) (x : Group) (t : Tally) → n < length groups → x ≡ get_or groups n x → set groups n (record { wire = x.wire; message = x.message; count = x.count; tally = t }) ≡ with_tally groups n t
set_tally [] n x t lt is = absurd (omega (arith, lt))
set_tally (y ∷ ys) zero x t lt is = ap (λ (z : Group). retallied z t ∷ ys) is
set_tally (y ∷ ys) (suc n) x t lt is = ap (λ (zs : List Group). y ∷ zs) (set_tally ys n x t (omega (arith, lt)) is)

pub length_with : (groups : List Group) (n : ℕ) (t : Tally) → length (with_tally groups n t) ≡ length groups
length_with [] n t = refl
length_with (y ∷ ys) zero t = omega arith
length_with (y ∷ ys) (suc n) t = omega (arith, length_with ys n t)

module _ (f : Group → ℕ) where
  pub sum_with : (groups : List Group) (n : ℕ) (x : Group) (t : Tally) → n < length groups → x ≡ get_or groups n x
      → sum_by f (with_tally groups n t) + f x ≡ sum_by f groups + f (record { wire = x.wire; message = x.message; count = x.count; tally = t })
  sum_with [] n x t lt is = absurd (omega (arith, lt))
  sum_with (y ∷ ys) zero x t lt is =
      let same : f x ≡ f y = ap f is in
      let other : f (retallied y t) ≡ f (retallied x t) = ap (λ (z : Group). f (retallied z t)) (sym is) in
      omega (arith, same, other, sum_by-cons f (retallied y t) ys, sum_by-cons f y ys)
  sum_with (y ∷ ys) (suc n) x t lt is = omega (arith, sum_with ys n x t (omega (arith, lt)) is, sum_by-cons f y ys, sum_by-cons f y (with_tally ys n t))

get_here : (groups : List Group) (n : ℕ) (t : Tally) → slice_get (with_tally groups n t) n ≡ option_map_or (λ x. Some (retallied x t)) (slice_get groups n) None
get_here [] n t = refl
get_here (y ∷ ys) zero t = refl
get_here (y ∷ ys) (suc n) t = get_here ys n t

get_there : (groups : List Group) (n g : ℕ) (t : Tally) → (n ≡ g → ⊥) → slice_get (with_tally groups n t) g ≡ slice_get groups g
get_there [] n g t other = refl
get_there (y ∷ ys) zero zero t other = absurd (other refl)
get_there (y ∷ ys) zero (suc g) t other = refl
get_there (y ∷ ys) (suc n) zero t other = refl
get_there (y ∷ ys) (suc n) (suc g) t other = get_there ys n g t (λ e. other (ap suc e))

get_with : (groups : List Group) (n g : ℕ) (t : Tally) → slice_get (with_tally groups n t) g ≡ (if nat_eq n g then option_map_or (λ x. Some (retallied x t)) (slice_get groups g) None else slice_get groups g)
get_with groups n g t = by (nat_eq n g) refl
  where
    by : (b : Bool) → nat_eq n g ≡ b → slice_get (with_tally groups n t) g ≡ (if b then option_map_or (λ x. Some (retallied x t)) (slice_get groups g) None else slice_get groups g)
    by true is =
        let same : n ≡ g = eqb-true n g is in
        subst (λ k. slice_get (with_tally groups n t) k ≡ option_map_or (λ x. Some (retallied x t)) (slice_get groups k) None) same (get_here groups n t)
    by false is = get_there groups n g t (eqb-false n g is)

module _ (groups : List Group) (n : ℕ) (t : Tally) where
  marks_with : (g wire : ℕ) (message : List ℕ) (count : ℕ) → HasKey groups g wire message count → HasKey (with_tally groups n t) g wire message count
  marks_with g wire message count key = by (nat_eq n g) (get_with groups n g t)
    where
      by : (b : Bool) → slice_get (with_tally groups n t) g ≡ (if b then option_map_or (λ x. Some (retallied x t)) (slice_get groups g) None else slice_get groups g) → HasKey (with_tally groups n t) g wire message count
      by true is = record {
        group = retallied key.group t;
        there = is ∙ ap (λ (o : Option Group). option_map_or (λ x. Some (retallied x t)) o None) key.there;
        wire_is = key.wire_is;
        message_is = key.message_is;
        count_is = key.count_is;
      }
      by false is = record { group = key.group; there = is ∙ key.there; wire_is = key.wire_is; message_is = key.message_is; count_is = key.count_is }

  marks_back : (g wire : ℕ) (message : List ℕ) (count : ℕ) → HasKey (with_tally groups n t) g wire message count → HasKey groups g wire message count
  marks_back g wire message count key = by (nat_eq n g) (get_with groups n g t)
    where
      cases : (o : Option Group) → slice_get groups g ≡ o → option_map_or (λ x. Some (retallied x t)) o None ≡ Some key.group → HasKey groups g wire message count
      cases None is e = cc
      cases (Some x) is e =
          let same : retallied x t ≡ key.group = cc in
          record { group = x; there = is; wire_is = ap (λ (z : Group). z.wire) same ∙ key.wire_is; message_is = ap (λ (z : Group). z.message) same ∙ key.message_is; count_is = ap (λ (z : Group). z.count) same ∙ key.count_is }

      by : (b : Bool) → slice_get (with_tally groups n t) g ≡ (if b then option_map_or (λ x. Some (retallied x t)) (slice_get groups g) None else slice_get groups g) → HasKey groups g wire message count
      by true is = cases (slice_get groups g) refl (sym is ∙ key.there)
      by false is = record { group = key.group; there = sym is ∙ key.there; wire_is = key.wire_is; message_is = key.message_is; count_is = key.count_is }

  pub follows_with : (wires : ℕ) → Follows (record { groups = groups; wires = wires }) (record { groups = with_tally groups n t; wires = wires })
  follows_with wires = record { longer = omega (arith, length_with groups n t); wires = omega arith; marks = marks_with }

  pub tally_with : n < length groups → (g : ℕ) → tally_at (with_tally groups n t) g ≡ (if nat_eq n g then t else tally_at groups g)
  tally_with lt g = ap (λ (o : Option Group). option_map_or (λ x. x.tally) o no_tally) (get_with groups n g t) ∙ by (nat_eq n g) refl
    where
      there : (gs : List Group) (k : ℕ) → k < length gs → option_map_or (λ x. x.tally) (option_map_or (λ x. Some (retallied x t)) (slice_get gs k) None) no_tally ≡ t
      there [] k h = absurd (omega (arith, h))
      there (y ∷ ys) zero h = refl
      there (y ∷ ys) (suc k) h = there ys k (omega (arith, h))

      by : (b : Bool) → nat_eq n g ≡ b
          → option_map_or (λ x. x.tally) (if b then option_map_or (λ x. Some (retallied x t)) (slice_get groups g) None else slice_get groups g) no_tally ≡ (if b then t else tally_at groups g)
      by true is = there groups g (let same : n ≡ g = eqb-true n g is in omega (arith, lt, same))
      by false is = refl

  all_with : (wires : ℕ) → All (λ (x : Group). x.wire < wires) groups → All (λ (x : Group). x.wire < wires) (with_tally groups n t)
  all_with wires all = go groups n all
    where
      go : (gs : List Group) (k : ℕ) → All (λ (x : Group). x.wire < wires) gs → All (λ (x : Group). x.wire < wires) (with_tally gs k t)
      go [] k a = a
      go (y ∷ ys) zero a = All-cons (λ (x : Group). x.wire < wires) (retallied y t) ys (All-head (λ (x : Group). x.wire < wires) y ys a) (All-tail (λ (x : Group). x.wire < wires) y ys a)
      go (y ∷ ys) (suc k) a = All-cons (λ (x : Group). x.wire < wires) y (with_tally ys k t) (All-head (λ (x : Group). x.wire < wires) y ys a) (go ys k (All-tail (λ (x : Group). x.wire < wires) y ys a))

-- what the groups of a table keep, once one has another tally
module _ (groups : List Group) (counts : List ℕ) (troubles : ℕ) (holds : GroupsHold groups counts troubles)
    (n : ℕ) (x : Group) (t : Tally) (lt : n < length groups) (is : x ≡ get_or groups n x)
    (others taken untroubled troubles' : ℕ)
    (left : taken_in x.tally + others ≡ get_or counts x.wire 0) (now : taken ≡ others + taken_in t)
    (un : x.tally.troubles + untroubled ≡ troubles) (sum_now : troubles' ≡ untroubled + t.troubles) where
  in_range : x.wire < length counts
  in_range = subst (λ (z : Group). z.wire < length counts) (sym is) (holds.within n x lt)

  counted_now : (w : ℕ) → w < length counts → get_or (set counts x.wire taken) w 0 ≡ on_wire (with_tally groups n t) w
  counted_now w below = by (nat_eq x.wire w) refl
    where
      moved : on_wire (with_tally groups n t) w + taken_on w x ≡ on_wire groups w + taken_on w (retallied x t)
      moved = sum_with (taken_on w) groups n x t lt is

      by : (b : Bool) → nat_eq x.wire w ≡ b → get_or (set counts x.wire taken) w 0 ≡ on_wire (with_tally groups n t) w
      by true same =
          let here : x.wire ≡ w = eqb-true x.wire w same in
          let before : taken_on w x ≡ taken_in x.tally = ap (λ b. if b then taken_in x.tally else 0) same in
          let after : taken_on w (retallied x t) ≡ taken_in t = ap (λ b. if b then taken_in t else 0) same in
          let written : get_or (set counts x.wire taken) w 0 ≡ taken = ap (λ v. get_or (set counts x.wire taken) v 0) (sym here) ∙ get_or-set_same counts x.wire taken 0 in_range in
          let was : get_or counts x.wire 0 ≡ on_wire groups w = ap (λ v. get_or counts v 0) here ∙ holds.counted w below in
          omega (arith, moved, before, after, written, was, left, now)
      by false other =
          let apart : (x.wire ≡ w) → ⊥ = eqb-false x.wire w other in
          let before : taken_on w x ≡ 0 = ap (λ b. if b then taken_in x.tally else 0) other in
          let after : taken_on w (retallied x t) ≡ 0 = ap (λ b. if b then taken_in t else 0) other in
          let written : get_or (set counts x.wire taken) w 0 ≡ get_or counts w 0 = get_or-set_other counts x.wire w taken 0 (λ e. apart (sym e)) in
          omega (arith, moved, before, after, written, holds.counted w below)

  pub holds_with : GroupsHold (with_tally groups n t) (set counts x.wire taken) troubles'
  holds_with =
      let long : length (set counts x.wire taken) ≡ length counts = length-set counts x.wire taken in
      record {
        within = subst (λ m. All (λ (y : Group). y.wire < m) (with_tally groups n t)) (sym long) (all_with groups n t (length counts) holds.within);
        counted = λ w below. counted_now w (omega (arith, below, long));
        distinct = λ i j wire message count a b. holds.distinct i j wire message count (marks_back groups n t i wire message count a) (marks_back groups n t j wire message count b);
        troubled_is = let moved = sum_with (λ z. z.tally.troubles) groups n x t lt is in omega (arith, moved, un, sum_now, holds.troubled_is);
      }

-- a group has lost the one and gained the other
pub moves_with : (old new : GroupsView) (n : ℕ) (both t less more : Tally) → n < length old.groups → both ≡ plus (tally_at old.groups n) more → both ≡ plus less t → new.groups ≡ with_tally old.groups n t
    → Moves old new (only_in n less) (only_in n more)
moves_with old new n both t less more lt adds leaves is g = by (nat_eq n g) refl (ap (λ (gs : List Group). tally_at gs g) is ∙ tally_with old.groups n t lt g)
  where
    by : (b : Bool) → nat_eq n g ≡ b → tally_at new.groups g ≡ (if b then t else tally_at old.groups g) → Alike (plus (tally_at new.groups g) (pick b less)) (plus (tally_at old.groups g) (pick b more))
    by true same now =
        let place : tally_at old.groups n ≡ tally_at old.groups g = ap (tally_at old.groups) (eqb-true n g same) in
        let sum_is : plus less t ≡ plus (tally_at old.groups g) more = sym leaves ∙ (adds ∙ ap (λ (x : Tally). plus x more) place) in
        record {
          sends = let e = ap (λ (x : Tally). x.sends) sum_is in let f = ap (λ (x : Tally). x.sends) now in omega (arith, e, f);
          free = let e = ap (λ (x : Tally). x.free) sum_is in let f = ap (λ (x : Tally). x.free) now in omega (arith, e, f);
          own = let e = ap (λ (x : Tally). x.own) sum_is in let f = ap (λ (x : Tally). x.own) now in omega (arith, e, f);
          asking = let e = ap (λ (x : Tally). x.asking) sum_is in let f = ap (λ (x : Tally). x.asking) now in omega (arith, e, f);
          yes = let e = ap (λ (x : Tally). x.yes) sum_is in let f = ap (λ (x : Tally). x.yes) now in omega (arith, e, f);
          troubles = let e = ap (λ (x : Tally). x.troubles) sum_is in let f = ap (λ (x : Tally). x.troubles) now in omega (arith, e, f);
        }
    by false other now = record {
      sends = let f = ap (λ (x : Tally). x.sends) now in omega (arith, f);
      free = let f = ap (λ (x : Tally). x.free) now in omega (arith, f);
      own = let f = ap (λ (x : Tally). x.own) now in omega (arith, f);
      asking = let f = ap (λ (x : Tally). x.asking) now in omega (arith, f);
      yes = let f = ap (λ (x : Tally). x.yes) now in omega (arith, f);
      troubles = let f = ap (λ (x : Tally). x.troubles) now in omega (arith, f);
    }

pub follows_change : (old new : GroupsView) (n : ℕ) (t : Tally) → new.groups ≡ with_tally old.groups n t → new.wires ≡ old.wires → Follows old new
follows_change old new n t groups wires =
    let f = follows_with old.groups n t old.wires in
    record {
      longer = omega (arith, f.longer, ap length groups);
      wires = omega (arith, wires);
      marks = λ g wire message count key. subst (λ (gs : List Group). HasKey gs g wire message count) (sym groups) (f.marks g wire message count key);
    }

pub count_change : (old new : GroupsView) (n : ℕ) (t : Tally) → new.groups ≡ with_tally old.groups n t → length new.groups ≡ length old.groups
count_change old new n t groups = ap length groups ∙ length_with old.groups n t

module _ {T E : Type 0} {P R : Type 0} where
  -- what follows where it is Ok
  pub ok_one : (r : Result T E) → (P → R) → OnOk r P → OnOk r R
  ok_one (Ok x) f p = f p
  ok_one (Err e) f p = p

module _ {T E : Type 0} {P Q R : Type 0} where
  pub ok_both : (r : Result T E) → (P → Q → R) → OnOk r P → OnOk r Q → OnOk r R
  ok_both (Ok x) f p q = f p q
  ok_both (Err e) f p q = p

-- by what is read
module _ (groups : List Group) (counts : List ℕ) (troubles : ℕ) (holds : GroupsHold groups counts troubles) (n : ℕ) (t : Tally) (lt : n < length groups) where
  pub changed : (a b d x : Group) (written : List ℕ) (others taken untroubled now : ℕ)
      → a ≡ get_or groups n a → b ≡ get_or groups n b → d ≡ get_or groups n d → x ≡ get_or groups n x
      → written ≡ set counts a.wire taken → taken_in b.tally + others ≡ get_or counts a.wire 0 → taken ≡ others + taken_in t
      → d.tally.troubles + untroubled ≡ troubles → now ≡ untroubled + t.troubles
      → GroupsHold (set groups n (record { wire = x.wire; message = x.message; count = x.count; tally = t })) written now
  changed a b d x written others taken untroubled now is_a is_b is_d is_x puts left takes un troubled =
      let same : (z : Group) → z ≡ get_or groups n z → z ≡ x = λ z is. is ∙ (get_or_default groups n z x lt ∙ sym is_x) in
      let wire : a.wire ≡ x.wire = ap (λ (z : Group). z.wire) (same a is_a) in
      let before : taken_in b.tally ≡ taken_in x.tally = ap (λ (z : Group). taken_in z.tally) (same b is_b) in
      let was : d.tally.troubles ≡ x.tally.troubles = ap (λ (z : Group). z.tally.troubles) (same d is_d) in
      let count : get_or counts a.wire 0 ≡ get_or counts x.wire 0 = ap (λ w. get_or counts w 0) wire in
      let done : GroupsHold (with_tally groups n t) (set counts x.wire taken) now
      = holds_with groups counts troubles holds n x t lt is_x others taken untroubled now (omega (arith, left, before, count)) takes (omega (arith, un, was)) troubled in
      let there : written ≡ set counts x.wire taken = puts ∙ ap (λ w. set counts w taken) wire in
      subst (λ (cs : List ℕ). GroupsHold (set groups n (retallied x t)) cs now) (sym there)
      (subst (λ (gs : List Group). GroupsHold gs (set counts x.wire taken) now) (sym (set_tally groups n x t lt is_x)) done)

-- A further group

module _ (groups : List Group) (x : Group) where
  marks_push : (g wire : ℕ) (message : List ℕ) (count : ℕ) → HasKey groups g wire message count → HasKey (groups ++ x ∷ []) g wire message count
  marks_push g wire message count key = record {
    group = key.group;
    there = get_left groups (x ∷ []) g (slice_get_within groups g key.group key.there) ∙ key.there;
    wire_is = key.wire_is;
    message_is = key.message_is;
    count_is = key.count_is;
  }

  pub key_push : HasKey (groups ++ x ∷ []) (length groups) x.wire x.message x.count
  key_push = record {
    group = x;
    there = let at : length groups + 0 ≡ length groups = omega arith in ap (slice_get (groups ++ x ∷ [])) (sym at) ∙ get_right groups (x ∷ []) 0;
    wire_is = refl;
    message_is = refl;
    count_is = refl;
  }

  pub key_added : (n : ℕ) (message : List ℕ) → n ≡ length groups → x.message ≡ message → HasKey (groups ++ x ∷ []) n x.wire message x.count
  key_added n message at same =
      let key : HasKey (groups ++ x ∷ []) n x.wire x.message x.count = subst (λ k. HasKey (groups ++ x ∷ []) k x.wire x.message x.count) (sym at) key_push in
      record { group = key.group; there = key.there; wire_is = key.wire_is; message_is = key.message_is ∙ same; count_is = key.count_is }

  pub follows_push : (wires more : ℕ) → wires ≤ more → Follows (record { groups = groups; wires = wires }) (record { groups = groups ++ x ∷ []; wires = more })
  follows_push wires more le = record { longer = omega (arith, length-append groups (x ∷ [])); wires = le; marks = marks_push }

  pub tallies_push : x.tally ≡ no_tally → (g : ℕ) → Alike (tally_at (groups ++ x ∷ []) g) (tally_at groups g)
  tallies_push none g = let same = at groups g in record { sends = ap (λ (t : Tally). t.sends) same; free = ap (λ (t : Tally). t.free) same; own = ap (λ (t : Tally). t.own) same; asking = ap (λ (t : Tally). t.asking) same; yes = ap (λ (t : Tally). t.yes) same; troubles = ap (λ (t : Tally). t.troubles) same }
    where
      at : (gs : List Group) (k : ℕ) → tally_at (gs ++ x ∷ []) k ≡ tally_at gs k
      at [] zero = none
      at [] (suc k) = refl
      at (y ∷ ys) zero = refl
      at (y ∷ ys) (suc k) = at ys k

  -- an end of the longer list is one of the shorter, or the new one
  key_cases : (g wire : ℕ) (message : List ℕ) (count : ℕ) → HasKey (groups ++ x ∷ []) g wire message count → HasKey groups g wire message count ⊎ ((g ≡ length groups) × (x.wire ≡ wire) × (x.message ≡ message) × (x.count ≡ count))
  key_cases g wire message count key = go groups g key.there
    where
      go : (gs : List Group) (k : ℕ) → slice_get (gs ++ x ∷ []) k ≡ Some key.group → HasKey gs k wire message count ⊎ ((k ≡ length gs) × (x.wire ≡ wire) × (x.message ≡ message) × (x.count ≡ count))
      go [] zero is =
          let same : x ≡ key.group = cc in
          inr (omega arith, ap (λ (z : Group). z.wire) same ∙ key.wire_is, ap (λ (z : Group). z.message) same ∙ key.message_is, ap (λ (z : Group). z.count) same ∙ key.count_is)
      go [] (suc k) is = cc
      go (y ∷ ys) zero is = let same : y ≡ key.group = cc in inl (record { group = key.group; there = ap (λ z. Some z) same; wire_is = key.wire_is; message_is = key.message_is; count_is = key.count_is })
      go (y ∷ ys) (suc k) is = up (go ys k is)
        where
          up : HasKey ys k wire message count ⊎ ((k ≡ length ys) × (x.wire ≡ wire) × (x.message ≡ message) × (x.count ≡ count))
              → HasKey (y ∷ ys) (suc k) wire message count ⊎ ((suc k ≡ length (y ∷ ys)) × (x.wire ≡ wire) × (x.message ≡ message) × (x.count ≡ count))
          up (inl h) = inl (record { group = h.group; there = h.there; wire_is = h.wire_is; message_is = h.message_is; count_is = h.count_is })
          up (inr h) = inr (omega (arith, h.0), h.1, h.2, h.3)

module _ (groups : List Group) (counts : List ℕ) (troubles : ℕ) (holds : GroupsHold groups counts troubles) (len : ℕ) where
  abbrev pub reached : List ℕ
  reached = counts ++ replicate (len - length counts) 0

  pub reached_long : (length counts ≤ length reached) × (len ≤ length reached)
  reached_long =
      let long : length reached ≡ length counts + (len - length counts) = length-append counts (replicate (len - length counts) 0) ∙ ap (λ n. length counts + n) (length-replicate (len - length counts) 0) in
      (omega (arith, long), omega (arith, long))

  off_wire : (gs : List Group) (w : ℕ) → All (λ (y : Group). y.wire < length counts) gs → length counts ≤ w → on_wire gs w ≡ 0
  off_wire [] w all le = refl
  off_wire (y ∷ ys) w all le =
      let below : y.wire < length counts = All-head (λ (y : Group). y.wire < length counts) y ys all in
      let other : nat_eq y.wire w ≡ false = ne_eqb y.wire w (λ e. omega (arith, e, below, le)) in
      let zero_here : taken_on w y ≡ 0 = ap (λ b. if b then taken_in y.tally else 0) other in
      omega (arith, zero_here, sum_by-cons (taken_on w) y ys, off_wire ys w (All-tail (λ (y : Group). y.wire < length counts) y ys all) le)

  reached_at : (w : ℕ) → get_or reached w 0 ≡ on_wire groups w
  reached_at w = by (split w (length counts))
    where
      split : (a b : ℕ) → (a < b) ⊎ (b ≤ a)
      split a b = grind arith

      zeros : (n k : ℕ) → ◌≡◌ {A = ℕ} (get_or (replicate n 0) k 0) 0
      zeros zero k = refl
      zeros (suc n) zero = refl
      zeros (suc n) (suc k) = zeros n k

      by : (w < length counts) ⊎ (length counts ≤ w) → get_or reached w 0 ≡ on_wire groups w
      by (inl below) = get_or_append_left counts (replicate (len - length counts) 0) 0 w below ∙ holds.counted w below
      by (inr past) = get_or-append_right counts (replicate (len - length counts) 0) (length counts) w 0 refl past ∙ (zeros (len - length counts) (w - length counts) ∙ sym (off_wire groups w holds.within past))

  -- with the counts of more wires alone
  pub holds_reached : GroupsHold groups reached troubles
  holds_reached = record {
    within = All-weaker (λ (y : Group). y.wire < length counts) (λ (y : Group). y.wire < length reached) (λ y lt. omega (arith, lt, reached_long.0)) groups holds.within;
    counted = λ w lt. reached_at w;
    distinct = holds.distinct;
    troubled_is = holds.troubled_is;
  }

  module _ (x : Group) (none : x.tally ≡ no_tally) (longer : x.wire < len) (apart : (g : ℕ) → ¬ HasKey groups g x.wire x.message x.count) where
    pub holds_push : GroupsHold (groups ++ x ∷ []) reached troubles
    holds_push = record {
      within = All-append (λ (y : Group). y.wire < length reached) groups (x ∷ []) holds_reached.within (All-cons (λ (y : Group). y.wire < length reached) x [] (omega (arith, longer, reached_long.1)) (All-nil (λ (y : Group). y.wire < length reached)));
      counted = λ w lt. reached_at w ∙ (let nil : taken_on w x ≡ 0 = empty w in omega (arith, nil, sum_by-append (taken_on w) groups (x ∷ []), sum_by-cons (taken_on w) x []));
      distinct = λ i j wire message count a b. apart_or (key_cases groups x i wire message count a) (key_cases groups x j wire message count b);
      troubled_is = let nil : x.tally.troubles ≡ 0 = ap (λ (t : Tally). t.troubles) none in omega (arith, nil, holds.troubled_is, sum_by-append (λ z. z.tally.troubles) groups (x ∷ []), sum_by-cons (λ z. z.tally.troubles) x []);
    }
      where
        empty : (w : ℕ) → taken_on w x ≡ 0
        empty w = by (nat_eq x.wire w)
          where
            by : (b : Bool) → (if b then taken_in x.tally else 0) ≡ 0
            by true = ap taken_in none
            by false = refl

        moved : {i wire count : ℕ} {message : List ℕ} → HasKey groups i wire message count → (x.wire ≡ wire) × (x.message ≡ message) × (x.count ≡ count) → HasKey groups i x.wire x.message x.count
        moved key same = record { group = key.group; there = key.there; wire_is = key.wire_is ∙ sym same.0; message_is = key.message_is ∙ sym same.1; count_is = key.count_is ∙ sym same.2 }

        apart_or : {i j wire count : ℕ} {message : List ℕ} → HasKey groups i wire message count ⊎ ((i ≡ length groups) × (x.wire ≡ wire) × (x.message ≡ message) × (x.count ≡ count))
            → HasKey groups j wire message count ⊎ ((j ≡ length groups) × (x.wire ≡ wire) × (x.message ≡ message) × (x.count ≡ count)) → i ≡ j
        apart_or {i} {j} {wire} {count} {message} (inl a) (inl b) = holds.distinct i j wire message count a b
        apart_or {i} {j} (inl a) (inr b) = absurd (apart i (moved a (b.1, b.2, b.3)))
        apart_or {i} {j} (inr a) (inl b) = absurd (apart j (moved b (a.1, a.2, a.3)))
        apart_or (inr a) (inr b) = a.0 ∙ sym b.0

  -- its message may be spelled by another that is equal
  pub holds_added : (x : Group) (message : List ℕ) → x.tally ≡ no_tally → x.wire < len → x.message ≡ message → ((g : ℕ) → ¬ HasKey groups g x.wire message x.count) → GroupsHold (groups ++ x ∷ []) reached troubles
  holds_added x message none longer same apart = holds_push x none longer (λ g key. apart g (record { group = key.group; there = key.there; wire_is = key.wire_is; message_is = key.message_is ∙ same; count_is = key.count_is }))

-- The lists of numbers

pub listed_push : (groups : List Group) (numbers later : List (List ℕ)) (x : Group) → AreListed groups numbers → ((k n : ℕ) → Contains (list_at numbers k) n → Contains (list_at later k) n) → Contains (list_at later x.wire) (length groups) → AreListed (groups ++ x ∷ []) later
listed_push groups numbers later x listed keeps last g y is = by (split g (length groups))
  where
    split : (a b : ℕ) → (a < b) ⊎ (b ≤ a)
    split a b = grind arith

    by : (g < length groups) ⊎ (length groups ≤ g) → Contains (list_at later y.wire) g
    by (inl below) = keeps y.wire g (listed g y (sym (get_left groups (x ∷ []) g below) ∙ is))
    by (inr past) =
        let lt = slice_get_within (groups ++ x ∷ []) g y is in
        let here : g ≡ length groups = omega (arith, past, lt, length-append groups (x ∷ [])) in
        let at : length groups + 0 ≡ g = omega (arith, here) in
        let both : Some x ≡ Some y = sym (get_right groups (x ∷ []) 0) ∙ (ap (slice_get (groups ++ x ∷ [])) at ∙ is) in
        let same : x ≡ y = same_Some x y both in
        subst (λ n. Contains (list_at later y.wire) n) (sym here) (subst (λ (z : Group). Contains (list_at later z.wire) (length groups)) same last)

pub listed_set : (groups : List Group) (numbers : List (List ℕ)) (n : ℕ) (x z : Group) → AreListed groups numbers → n < length groups → x ≡ get_or groups n x → z.wire ≡ x.wire → AreListed (set groups n z) numbers
listed_set groups numbers n x z listed lt is same g y at = by (split g n)
  where
    split : (a b : ℕ) → (a ≡ b) ⊎ (a ≢ b)
    split a b = cases_eq a b

    there : get_or (set groups n z) g y ≡ y
    there = get_or_from_slice_get (set groups n z) g y y at

    by : (g ≡ n) ⊎ (g ≢ n) → Contains (list_at numbers y.wire) g
    by (inl here) =
        let y_is : z ≡ y = sym (get_or-set_same groups n z y lt) ∙ (ap (λ k. get_or (set groups n z) k y) (sym here) ∙ there) in
        let wire : x.wire ≡ y.wire = sym same ∙ ap (λ (w : Group). w.wire) y_is in
        subst (λ w. Contains (list_at numbers w) g) wire (subst (λ k. Contains (list_at numbers x.wire) k) (sym here) (listed n x (slice_get-get_or groups n x lt ∙ ap (λ (w : Group). Some w) (sym is))))
    by (inr other) = listed g y (slice_get-get_or groups g y (omega (arith, slice_get_within (set groups n z) g y at, length-set groups n z)) ∙ ap (λ (w : Group). Some w) (sym (get_or-set_other groups n g z y other) ∙ there))

-- a group that is not among the listed ones is nowhere
pub none_listed : (groups : List Group) (numbers : List (List ℕ)) (wire count : ℕ) (message : List ℕ) → AreListed groups numbers → ((g : ℕ) → Contains (list_at numbers wire) g → ¬ HasKey groups g wire message count) → (g : ℕ) → ¬ HasKey groups g wire message count
none_listed groups numbers wire count message listed none g key = none g (subst (λ w. Contains (list_at numbers w) g) key.wire_is (listed g key.group key.there)) key

-- Follows is an order

pub follows_same : (a : GroupsView) → Follows a a
follows_same a = record { longer = omega arith; wires = omega arith; marks = λ g wire message count key. key }

pub tallies_same : (a : GroupsView) → SameTallies a a
tallies_same a g = record { sends = refl; free = refl; own = refl; asking = refl; yes = refl; troubles = refl }

pub follows_next : {a b c : GroupsView} → Follows a b → Follows b c → Follows a c
follows_next f g = record { longer = omega (arith, f.longer, g.longer); wires = omega (arith, f.wires, g.wires); marks = λ i wire message count key. g.marks i wire message count (f.marks i wire message count key) }

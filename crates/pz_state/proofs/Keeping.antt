-- What a `State` keeps at each call, and what is seen of it then.
use Rattle.std.proofs.Common.{◌≡◌, ℕ, zero, suc, ◌-◌, ◌≤◌, ◌<◌, List, [], ◌∷◌, ◌++◌, length, map, reverse, slice_set, Bool, true, false, Some, refl, ap, subst, sym, ◌∙◌, arith}
use Rattle.std.specs.Prelude.{All}
use Rattle.std.proofs.lemmas.List.{length-append, length-map, length-reverse, reverse-append}
use Rattle.pz_state.specs.States.{object_limit}
use Rattle.pz_state.specs.declared.journal.Change.{Change}
use Rattle.pz_state.specs.declared.journal.Entry.{Entry}
use Rattle.pz_state.specs.declared.journal.Entry.TheVariants as entry
use Rattle.pz_state.specs.declared.journal.Journal.{Journal}
use Rattle.pz_state.specs.declared.state.State.TheInside.{Inside}
use Rattle.pz_value.specs.declared.value.Value.{Value}
use Rattle.pz_state.specs.States.{StateView}
use Rattle.pz_state.specs.References.{RefersWithin, IsSelfContained}
use Rattle.pz_state.specs.Marks.{Seen, IsLatest, point_of_first, changed, marked, undone, undone_from, kept, older}
use Rattle.pz_state.specs.devices.StoredStates.{Room, StoredState, IsWider}
use Rattle.pz_state.specs.devices.Changes.{LeadsBack}
use Rattle.pz_state.specs.declared.spots.Spot.{Spot}
use Rattle.pz_state.specs.devices.Journals.{marks_from, count_of_marks, noted, while_marked, AreReady, Undoes, IsClosed, HasNoMarkAfter, HasNoMarkAfterLatest}
use Rattle.pz_state.specs.devices.Spots.{AreAlike, IsFree}
use Rattle.pz_state.specs.devices.Fields.{seen, IsKept}
use Rattle.pz_state.proofs.Journals.{length-marks, no_marks, marks_silent, marks_marked, ready_push, are_still_ready, wider_suffices, settles}

abbrev pub inside : StoredState → Journal → Inside
inside c j = record { contents = c; journal = j }

abbrev pub seen_at : StateView → List (ℕ × StateView) → Seen
seen_at s ms = record { held = s; marks = ms }

pub record Becomes (now : Seen) (after : Inside) : Type 0 where
  pub kept : IsKept after
  pub is : seen after ≡ now

abbrev places_of : List (ℕ × StateView) → List ℕ
places_of ms = map (λ m. m.0) ms

-- A call that noted nothing and left the state.

pub stays : {now : Seen} (s : Inside) → seen s ≡ now → IsKept s → (c : StoredState) (j : Journal) → c.state ≡ s.contents.state → IsWider s.contents.room c.room → j.entries.items ≡ s.journal.entries.items → j.places.items ≡ s.journal.places.items → Becomes now (inside c j)
stays s v k c j ce w je jm = let marks_same : marks_from 0 j.entries.items c.state ≡ marks_from 0 s.journal.entries.items s.contents.state = rw (je, ce) refl in record {
  kept = record {
    placed = ap reverse jm ∙ k.placed ∙ ap places_of (sym marks_same);
    settled = λ none. je ∙ k.settled (sym (ap length jm) ∙ none);
    ready = rw (je, ce) (are_still_ready (wider_suffices (length s.contents.state.objects) w) s.journal.entries.items s.contents.state (omega arith) k.ready);
    contained = rw ce k.contained;
    marked = rw marks_same k.marked;
    limit = rw ce k.limit;
  };
  is = ap (λ (z : StateView). seen_at z (marks_from 0 j.entries.items c.state)) ce ∙ ap (λ (ms : List (ℕ × StateView)). seen_at s.contents.state ms) marks_same ∙ v;
}

-- A call that changed the state, and noted what takes the change back where it had to.

-- the state is changed, and nothing has to be noted for it
pub record Spared (s : Inside) (c : StoredState) : Type 0 where
  pub same : marks_from 0 s.journal.entries.items c.state ≡ marks_from 0 s.journal.entries.items s.contents.state
  pub ready : AreReady c.room s.journal.entries.items c.state

-- without an open mark
pub spared_unmarked : (s : Inside) → IsKept s → (c : StoredState) → length s.journal.places.items ≡ 0 → Spared s c
spared_unmarked s k c e = let none : s.journal.entries.items ≡ [] = k.settled e in record {
  same = ap (λ (es : List Entry). marks_from 0 es c.state) none ∙ sym (ap (λ (es : List Entry). marks_from 0 es s.contents.state) none);
  ready = subst (λ (es : List Entry). AreReady c.room es c.state) (sym none) tt;
}

-- where it is noted already what stood there
pub spared_noted : (s : Inside) → IsKept s → (c : StoredState) (change : Change) → LeadsBack s.contents c change → (x : Spot) (new : StateView) → c.state ≡ new → AreAlike x s.contents.state new → IsFree x s.journal.entries.items → Spared s c
spared_noted s k c change b x new ce a f = rw ce record {
  same = f.marks s.contents.room s.contents.state new a k.ready;
  ready = f.ready c.room s.contents.state new a (are_still_ready (wider_suffices (length s.contents.state.objects) b.room) s.journal.entries.items s.contents.state (omega arith) k.ready);
}

record Noted (s : Inside) (c : StoredState) (es : List Entry) : Type 0 where
  settled : length s.journal.places.items ≡ 0 → es ≡ []
  ready : AreReady c.room es c.state
  same : marks_from 0 es c.state ≡ marks_from 0 s.journal.entries.items s.contents.state

noted_by : (s : Inside) → IsKept s → (c : StoredState) (change : Change) → LeadsBack s.contents c change → (noting : Bool) → (noting ≡ false → Spared s c) → (noting ≡ true → length s.journal.places.items ≡ 0 → ⊥) → Noted s c (noted noting change s.journal.entries.items)
noted_by s k c change b false spared marked = record {
  settled = λ z. k.settled z;
  ready = (spared refl).ready;
  same = (spared refl).same;
}
noted_by s k c change b true spared marked = record {
  settled = λ z. absurd (marked refl z);
  ready = ready_push c.room s.journal.entries.items (entry.Change change) c.state
      (subst (λ (z : StateView). AreReady c.room s.journal.entries.items z) (sym b.back) (are_still_ready (wider_suffices (length s.contents.state.objects) b.room) s.journal.entries.items s.contents.state (omega arith) k.ready)) b.ready;
  same = marks_silent s.journal.entries.items (entry.Change change) c.state refl ∙ ap (λ (z : StateView). marks_from 0 s.journal.entries.items z) b.back;
}

-- how the journal went on
pub record GoesOn (s : Inside) (c : StoredState) (change : Change) (noting : Bool) (j : Journal) : Type 0 where
  pub spared : noting ≡ false → Spared s c
  pub marked : noting ≡ true → length s.journal.places.items ≡ 0 → ⊥
  pub entries : j.entries.items ≡ noted noting change s.journal.entries.items
  pub places : j.places.items ≡ s.journal.places.items

pub changes : {now : Seen} (s : Inside) → seen s ≡ now → IsKept s → (c : StoredState) (change : Change) (noting : Bool) (j : Journal) (new : StateView) → c.state ≡ new → LeadsBack s.contents c change
    → GoesOn s c change noting j → IsSelfContained new → length new.objects ≤ object_limit → Becomes (changed now new) (inside c j)
changes {now} s v k c change noting j new ce b g contained limit =
    let n = noted_by s k c change b noting g.spared g.marked in
    let same : marks_from 0 j.entries.items c.state ≡ marks_from 0 s.journal.entries.items s.contents.state = ap (λ (z : List Entry). marks_from 0 z c.state) g.entries ∙ n.same in record {
      kept = record {
        placed = ap reverse g.places ∙ k.placed ∙ ap places_of (sym same);
        settled = λ none. g.entries ∙ n.settled (sym (ap length g.places) ∙ none);
        ready = subst (λ (z : List Entry). AreReady c.room z c.state) (sym g.entries) n.ready;
        contained = subst IsSelfContained (sym ce) contained;
        marked = rw same k.marked;
        limit = rw ce limit;
      };
      is = ap (λ (z : StateView). seen_at z (marks_from 0 j.entries.items c.state)) ce ∙ ap (λ (ms : List (ℕ × StateView)). seen_at new ms) same ∙ ap (λ (z : Seen). seen_at new z.marks) v;
    }

-- the same, where the change is named by what it makes of the state that is seen
pub changes_by : {now : Seen} (s : Inside) → seen s ≡ now → IsKept s → (c : StoredState) (change : Change) (noting : Bool) (j : Journal) (by : StateView → StateView) → c.state ≡ by s.contents.state → LeadsBack s.contents c change
    → GoesOn s c change noting j → IsSelfContained (by s.contents.state) → length (by s.contents.state).objects ≤ object_limit → Becomes (changed now (by now.held)) (inside c j)
changes_by {now} s v k c change noting j by ce b g contained limit = let t = changes s v k c change noting j (by s.contents.state) ce b g contained limit in
    record { kept = t.kept; is = t.is ∙ ap (λ (z : Seen). changed now (by z.held)) v }

-- after the call that asked whether a mark is open
pub goes_on : (s : Inside) → IsKept s → (c : StoredState) (change : Change) (noting : Bool) (j1 j2 : Journal) → (noting ≡ false → length s.journal.places.items ≡ 0) → (noting ≡ true → 0 < length s.journal.places.items)
    → j1.entries.items ≡ s.journal.entries.items → j1.places.items ≡ s.journal.places.items → j2.entries.items ≡ noted noting change j1.entries.items → j2.places.items ≡ j1.places.items → GoesOn s c change noting j2
goes_on s k c change noting j1 j2 unmarked marked e1 p1 e2 p2 = record {
  spared = λ f. spared_unmarked s k c (unmarked f);
  marked = λ t z. let m = marked t in omega arith;
  entries = e2 ∙ ap (λ (z : List Entry). noted noting change z) e1;
  places = p2 ∙ p1;
}

-- after the call that asked whether a spot is noted
pub assigns : (s : Inside) → IsKept s → (c : StoredState) (change : Change) → LeadsBack s.contents c change → (x : Spot) (new : StateView) → c.state ≡ new → AreAlike x s.contents.state new → (noting : Bool) (j1 j2 : Journal)
    → (noting ≡ false → IsFree x s.journal.entries.items) → (noting ≡ true → 0 < length s.journal.places.items)
    → j1.entries.items ≡ s.journal.entries.items → j1.places.items ≡ s.journal.places.items → j2.entries.items ≡ noted noting change j1.entries.items → j2.places.items ≡ j1.places.items → GoesOn s c change noting j2
assigns s k c change b x new ce a noting j1 j2 free marked e1 p1 e2 p2 = record {
  spared = λ f. spared_noted s k c change b x new ce a (free f);
  marked = λ t z. let m = marked t in omega arith;
  entries = e2 ∙ ap (λ (z : List Entry). noted noting change z) e1;
  places = p2 ∙ p1;
}

pub within_held : {now : Seen} (s : Inside) → seen s ≡ now → (x : Value) → RefersWithin (length now.held.objects) x → RefersWithin (length s.contents.state.objects) x
within_held s v x = subst (λ (z : Seen). RefersWithin (length z.held.objects) x → RefersWithin (length s.contents.state.objects) x) v (λ r. r)

pub is_contained : {now : Seen} (s : Inside) → seen s ≡ now → IsKept s → IsSelfContained now.held
is_contained s v k = subst (λ (z : Seen). IsSelfContained z.held) v k.contained

-- A mark.

pub marks : {now : Seen} (s : Inside) → seen s ≡ now → IsKept s → (j : Journal) (place : ℕ) → place ≡ length s.journal.entries.items → j.entries.items ≡ s.journal.entries.items ++ entry.Mark ∷ [] → j.places.items ≡ s.journal.places.items ++ place ∷ []
    → Becomes (marked now place) (inside s.contents j)
marks {now} s v k j place pe je jm = let es = s.journal.entries.items in
    let seen_marks : marks_from 0 j.entries.items s.contents.state ≡ (place, s.contents.state) ∷ marks_from 0 s.journal.entries.items s.contents.state =
    ap (λ (z : List Entry). marks_from 0 z s.contents.state) je ∙ marks_marked s.journal.entries.items s.contents.state ∙ ap (λ (p : ℕ). (p, s.contents.state) ∷ marks_from 0 s.journal.entries.items s.contents.state) (sym pe) in record {
      kept = record {
        placed = ap reverse jm ∙ reverse-append s.journal.places.items (place ∷ []) ∙ ap (λ (ps : List ℕ). place ∷ ps) k.placed ∙ ap places_of (sym seen_marks);
        settled = λ none. let l = ap length jm in let e = length-append s.journal.places.items (place ∷ []) in absurd (omega arith);
        ready = rw je (ready_push s.contents.room s.journal.entries.items entry.Mark s.contents.state k.ready tt);
        contained = k.contained;
        marked = rw seen_marks (all_first (place, s.contents.state) (marks_from 0 s.journal.entries.items s.contents.state) k.contained k.marked);
        limit = k.limit;
      };
      is = ap (λ (ms : List (ℕ × StateView)). seen_at s.contents.state ms) seen_marks ∙ ap (λ (z : Seen). seen_at z.held ((place, z.held) ∷ z.marks)) v;
    }
  where
    all_first : (m : ℕ × StateView) (ms : List (ℕ × StateView)) → IsSelfContained m.1 → All (λ x. IsSelfContained x.1) ms → All (λ x. IsSelfContained x.1) (m ∷ ms)
    all_first m ms c h zero d lt = c
    all_first m ms c h (suc n) d lt = h n d (omega arith)

-- The latest mark.

record Latest (s : Inside) (p : ℕ) : Type 0 where
  m : ℕ × StateView
  before : List (ℕ × StateView)
  is : marks_from 0 s.journal.entries.items s.contents.state ≡ m ∷ before
  place : m.0 ≡ p

latest_in : (s : Inside) (p : ℕ) (ms : List (ℕ × StateView)) → marks_from 0 s.journal.entries.items s.contents.state ≡ ms → point_of_first ms ≡ Some p → Latest s p
latest_in s p [] e q = absurd cc
latest_in s p (m ∷ ms) e q = record { m = m; before = ms; is = e; place = some_is q }
  where
    some_is : {a b : ℕ} → Some a ≡ Some b → a ≡ b
    some_is r = cc

latest_of : {now : Seen} (s : Inside) → seen s ≡ now → (p : ℕ) → IsLatest now p → Latest s p
latest_of {now} s v p q = latest_in s p _ refl (subst (λ (z : Seen). point_of_first z.marks ≡ Some p) (sym v) q)

all_older : (m : ℕ × StateView) (ms : List (ℕ × StateView)) → All (λ x. IsSelfContained x.1) (m ∷ ms) → IsSelfContained m.1 × All (λ x. IsSelfContained x.1) ms
all_older m ms h = (h 0 m (omega arith), λ n d lt. h (suc n) d (omega arith))

while_marked_none : (marks : ℕ) (es : List Entry) → marks ≡ 0 → while_marked marks es ≡ []
while_marked_none zero es e = refl
while_marked_none (suc marks) es e = absurd (omega arith)

while_marked_ready : (marks : ℕ) (room : Room) (es : List Entry) (s : StateView) → AreReady room es s → AreReady room (while_marked marks es) s
while_marked_ready zero room es s r = tt
while_marked_ready (suc marks) room es s r = r

while_marked_marks : (marks : ℕ) (es : List Entry) (s : StateView) → marks ≡ count_of_marks es → marks_from 0 (while_marked marks es) s ≡ marks_from 0 es s
while_marked_marks zero es s e = sym (no_marks 0 es s (sym e))
while_marked_marks (suc marks) es s e = refl

-- as many places as open marks
count_by : (places : List ℕ) (ms : List (ℕ × StateView)) (es : List Entry) (s : StateView) → reverse places ≡ places_of ms → marks_from 0 es s ≡ ms → length places ≡ count_of_marks es
count_by places ms es s e me = sym (length-reverse places) ∙ ap length e ∙ length-map ms (λ m. m.0) ∙ ap length (sym me) ∙ length-marks 0 es s

-- the places once the latest mark is closed
places_left : (s : Inside) → IsKept s → (m : ℕ × StateView) (before : List (ℕ × StateView)) → marks_from 0 s.journal.entries.items s.contents.state ≡ m ∷ before → (places : List ℕ) → IsClosed s.journal.places.items places → reverse places ≡ places_of before
places_left s k m before e places closed = closed m.0 (places_of before) (k.placed ∙ ap places_of e)

-- once one mark fewer is open, with these entries
closes : (c : StoredState) (j : Journal) (es : List Entry) → j.entries.items ≡ while_marked (length j.places.items) es → AreReady c.room es c.state → IsSelfContained c.state → length c.state.objects ≤ object_limit
    → (ms : List (ℕ × StateView)) → reverse j.places.items ≡ places_of ms → marks_from 0 es c.state ≡ ms → All (λ x. IsSelfContained x.1) ms → Becomes (seen_at c.state ms) (inside c j)
closes c j es je ready contained limit ms placed me all = let counts = count_by j.places.items ms es c.state placed me in
    let same : marks_from 0 j.entries.items c.state ≡ ms = ap (λ (z : List Entry). marks_from 0 z c.state) je ∙ while_marked_marks (length j.places.items) es c.state counts ∙ me in record {
      kept = record {
        placed = placed ∙ ap places_of (sym same);
        settled = λ none. je ∙ while_marked_none (length j.places.items) es none;
        ready = subst (λ (z : List Entry). AreReady c.room z c.state) (sym je) (while_marked_ready (length j.places.items) c.room es c.state ready);
        contained = contained;
        marked = rw same all;
        limit = limit;
      };
      is = ap (λ (z : List (ℕ × StateView)). seen_at c.state z) same;
    }

-- after the latest mark none is open
pub none_after_latest : (s : Inside) → IsKept s → HasNoMarkAfterLatest s.journal.places.items s.journal.entries.items
none_after_latest s k latest older e = by_marks (marks_from 0 s.journal.entries.items s.contents.state) refl (sym e ∙ k.placed)
  where
    by_marks : (ms : List (ℕ × StateView)) → marks_from 0 s.journal.entries.items s.contents.state ≡ ms → latest ∷ older ≡ places_of ms → HasNoMarkAfter s.journal.entries.items latest
    by_marks [] g f = absurd cc
    by_marks (m ∷ before) g f = let place : m.0 ≡ latest = cc in let t = settles 0 s.journal.entries.items s.contents.state m before g in
        let at : m.0 - 0 ≡ latest = omega (arith, place) in rw at at t.after

-- Undoing. The marked state had no more objects than there may be, as the one that is undone.

pub fewer : (s : Inside) → IsKept s → (c : StateView) → length c.objects ≤ length s.contents.state.objects → length c.objects ≤ object_limit
fewer s k c le = let l = k.limit in omega arith

pub undoes : {now : Seen} (s : Inside) → seen s ≡ now → IsKept s → (p : ℕ) → IsLatest now p → (c : StoredState) (es : List Entry) (j : Journal) → Undoes s.contents.state s.journal.entries.items c.state es → AreReady c.room es c.state
    → length c.state.objects ≤ length s.contents.state.objects → j.entries.items ≡ while_marked (length j.places.items) es → IsClosed s.journal.places.items j.places.items → Becomes (undone now) (inside c j)
undoes {now} s v k p q c es j u r le je jm = let l = latest_of s v p q in let w = u l.m l.before l.is in
    let all = all_older l.m l.before (subst (λ (ms : List (ℕ × StateView)). All (λ x. IsSelfContained x.1) ms) l.is k.marked) in
    let placed = places_left s k l.m l.before l.is j.places.items jm in
    let b = closes c j es je r (subst IsSelfContained (sym w.0) all.0) (fewer s k c.state le) l.before placed w.1 all.1 in
    let is_now : seen_at c.state l.before ≡ undone now = ap (λ (z : StateView). seen_at z l.before) w.0 ∙ sym (ap (λ (ms : List (ℕ × StateView)). undone_from ms (seen s)) l.is) ∙ ap undone v in
    record { kept = b.kept; is = b.is ∙ is_now }

-- Leaving a mark.

pub keep_within : {now : Seen} (s : Inside) → seen s ≡ now → (p : ℕ) → IsLatest now p → p < length s.journal.entries.items
keep_within s v p q = let l = latest_of s v p q in let t = settles 0 s.journal.entries.items s.contents.state l.m l.before l.is in let w = t.within in let e = l.place in omega arith

pub keeps : {now : Seen} (s : Inside) → seen s ≡ now → IsKept s → (p : ℕ) → IsLatest now p → (j : Journal) → j.entries.items ≡ while_marked (length j.places.items) (slice_set s.journal.entries.items p entry.Kept) → IsClosed s.journal.places.items j.places.items → Becomes (kept now) (inside s.contents j)
keeps {now} s v k p q j je jm = let l = latest_of s v p q in let t = settles 0 s.journal.entries.items s.contents.state l.m l.before l.is in
    let at : l.m.0 - 0 ≡ p = omega (arith, l.place) in
    let all = all_older l.m l.before (subst (λ (ms : List (ℕ × StateView)). All (λ x. IsSelfContained x.1) ms) l.is k.marked) in
    let es = slice_set s.journal.entries.items p entry.Kept in
    let ready : AreReady s.contents.room (slice_set s.journal.entries.items p entry.Kept) s.contents.state = rw at at (t.ready s.contents.room k.ready) in
    let left : marks_from 0 (slice_set s.journal.entries.items p entry.Kept) s.contents.state ≡ l.before = rw at at t.marks in
    let placed = places_left s k l.m l.before l.is j.places.items jm in
    let b = closes s.contents j es je ready k.contained k.limit l.before placed left all.1 in
    let is_now : seen_at s.contents.state l.before ≡ kept now = sym (ap (λ (ms : List (ℕ × StateView)). seen_at s.contents.state (older ms)) l.is) ∙ ap kept v in
    record { kept = b.kept; is = b.is ∙ is_now }

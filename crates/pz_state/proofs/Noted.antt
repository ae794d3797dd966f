-- An assignment to a spot that is noted changes nothing that a journal leads back to.
use Rattle.std.proofs.Common.{◌≡◌, ℕ, zero, suc, ◌<◌, ◌≤◌, ◌-◌, List, [], ◌∷◌, ◌++◌, length, drop, slice_set, slice_get, unwrap_or, reverse, Bool, true, false, nat_eq, Option, Some, None, is_some, refl, ap, subst, sym, ◌∙◌, arith}
use Rattle.std.proofs.lemmas.List.{length-set, reverse-append}
use Rattle.pz_value.specs.declared.value.Value.{Value}
use Rattle.pz_value.specs.declared.value.Value.TheVariants as value
use Rattle.pz_state.specs.declared.spots.Spot.{Spot}
use Rattle.pz_state.specs.declared.spots.Spot.TheVariants as spot
use Rattle.pz_state.specs.declared.journal.Change.{Change}
use Rattle.pz_state.specs.declared.journal.Change.TheVariants as change
use Rattle.pz_state.specs.declared.journal.Entry.{Entry}
use Rattle.pz_state.specs.declared.journal.Entry.TheVariants as entry
use Rattle.pz_state.specs.Objects.{ObjectView}
use Rattle.pz_state.specs.States.{StateView, Frames, locals_in, locals_of, object, no_object, at_frame, at_object, set_variable, set_local, set_item}
use Rattle.pz_state.specs.devices.StoredStates.{Room}
use Rattle.pz_state.specs.devices.Changes.{taken_back, IsReady}
use Rattle.pz_state.specs.devices.Journals.{undone_entry, replay, marks_from, count_of_marks, is_mark, IsReadyEntry, AreReady, HasNoMarkAfter}
use Rattle.pz_state.specs.devices.Spots.{emptied, AreAlike, spot_of, IsNotedAt, IsFree}
use Rattle.pz_state.proofs.ObjectLists.{length-at_object}
use Rattle.pz_state.proofs.Journals.{no_marks, no_mark_here}
use Rattle.pz_state.proofs.Emptied.{blank, set_twice, set_overlooks, take_overlooks, append_overlooks, objects_set, objects_twice, objects_changed, objects_unmade, frames_set, frames_twice, frames_changed, frames_unopened, frames_reopened}

abbrev with_vars : StateView → List Value → StateView
with_vars s vars = record { vars = vars; frames = s.frames; objects = s.objects }

abbrev with_frames : StateView → Frames → StateView
with_frames s frames = record { vars = s.vars; frames = frames; objects = s.objects }

abbrev with_objects : StateView → List ObjectView → StateView
with_objects s objects = record { vars = s.vars; frames = s.frames; objects = objects }

-- The states stay alike as a change is taken back.

vars_twice : (s : StateView) (i : ℕ) → with_vars s (blank i (blank i s.vars)) ≡ with_vars s (blank i s.vars)
vars_twice s i = ap (with_vars s) (set_twice s.vars i value.Nil value.Nil)

keeps_variable : (i : ℕ) (c : Change) (s : StateView) → emptied (spot.Variable i) (taken_back c (emptied (spot.Variable i) s)) ≡ emptied (spot.Variable i) (taken_back c s)
keeps_variable i (change.Variable slot old) s = ap (with_vars s) (set_overlooks i slot old s.vars)
keeps_variable i (change.Local frame slot old) s = vars_twice (taken_back (change.Local frame slot old) s) i
keeps_variable i (change.Item r place old) s = vars_twice (taken_back (change.Item r place old) s) i
keeps_variable i (change.Grown r count) s = vars_twice (taken_back (change.Grown r count) s) i
keeps_variable i (change.Cut r cut) s = vars_twice (taken_back (change.Cut r cut) s) i
keeps_variable i (change.Opened frame) s = vars_twice (taken_back (change.Opened frame) s) i
keeps_variable i (change.Closed frame values) s = vars_twice (taken_back (change.Closed frame values) s) i
keeps_variable i change.Made s = vars_twice (taken_back change.Made s) i

local_twice : (s : StateView) (number i : ℕ) → with_frames s (at_frame number (blank i) (at_frame number (blank i) s.frames)) ≡ with_frames s (at_frame number (blank i) s.frames)
local_twice s number i = ap (with_frames s) (frames_twice s.frames number i)

keeps_local : (number i : ℕ) (c : Change) (room : Room) (s : StateView) → IsReady room c s → emptied (spot.Local number i) (taken_back c (emptied (spot.Local number i) s)) ≡ emptied (spot.Local number i) (taken_back c s)
keeps_local number i (change.Variable slot old) room s r = local_twice (taken_back (change.Variable slot old) s) number i
keeps_local number i (change.Local frame slot old) room s r = ap (with_frames s) (frames_changed s.frames number frame i (λ xs. slice_set xs slot old) (set_overlooks i slot old))
keeps_local number i (change.Item o place old) room s r = local_twice (taken_back (change.Item o place old) s) number i
keeps_local number i (change.Grown o count) room s r = local_twice (taken_back (change.Grown o count) s) number i
keeps_local number i (change.Cut o cut) room s r = local_twice (taken_back (change.Cut o cut) s) number i
keeps_local number i (change.Opened frame) room s r = ap (with_frames s) (frames_unopened s.frames number frame i)
keeps_local number i (change.Closed frame values) room s r = ap (with_frames s) (frames_reopened s.frames number frame i values.items r.2)
keeps_local number i change.Made room s r = local_twice (taken_back change.Made s) number i

item_twice : (s : StateView) (o i : ℕ) → with_objects s (at_object o (blank i) (at_object o (blank i) s.objects)) ≡ with_objects s (at_object o (blank i) s.objects)
item_twice s o i = ap (with_objects s) (objects_twice s.objects o i)

keeps_item : (o i : ℕ) (c : Change) (s : StateView) → emptied (spot.Item o i) (taken_back c (emptied (spot.Item o i) s)) ≡ emptied (spot.Item o i) (taken_back c s)
keeps_item o i (change.Variable slot old) s = item_twice (taken_back (change.Variable slot old) s) o i
keeps_item o i (change.Local frame slot old) s = item_twice (taken_back (change.Local frame slot old) s) o i
keeps_item o i (change.Item r place old) s = ap (with_objects s) (objects_changed s.objects o r i (λ xs. slice_set xs place old) (set_overlooks i place old))
keeps_item o i (change.Grown r count) s = ap (with_objects s) (objects_changed s.objects o r i _ (take_overlooks i count))
keeps_item o i (change.Cut r cut) s = ap (with_objects s) (objects_changed s.objects o r i (λ xs. xs ++ reverse cut.items) (append_overlooks i (reverse cut.items)))
keeps_item o i (change.Opened frame) s = item_twice (taken_back (change.Opened frame) s) o i
keeps_item o i (change.Closed frame values) s = item_twice (taken_back (change.Closed frame values) s) o i
keeps_item o i change.Made s = ap (with_objects s) (objects_unmade s.objects o i)

keeps : (x : Spot) (c : Change) (room : Room) (s : StateView) → IsReady room c s → emptied x (taken_back c (emptied x s)) ≡ emptied x (taken_back c s)
keeps (spot.Variable slot) c room s r = keeps_variable slot c s
keeps (spot.Local frame slot) c room s r = keeps_local frame slot c room s r
keeps (spot.Item o place) c room s r = keeps_item o place c s

-- What is there, in states that are alike.

abbrev or_none : Option (List Value) → List Value
or_none o = unwrap_or o []

record SameShape (s t : StateView) : Type 0 where
  vars : length s.vars ≡ length t.vars
  is_open : (number : ℕ) → is_some (locals_in s.frames number) ≡ is_some (locals_in t.frames number)
  locals : (number : ℕ) → length (locals_of s.frames number) ≡ length (locals_of t.frames number)
  objects : length s.objects ≡ length t.objects
  items : (r : ℕ) → length (object s r).items ≡ length (object t r).items

same_open : (fs : Frames) (number i k : ℕ) → is_some (locals_in (at_frame number (blank i) fs) k) ≡ is_some (locals_in fs k)
same_open [] number i k = refl
same_open (f ∷ fs) number i k = by_number (nat_eq f.0 number) refl (nat_eq f.0 k) refl (same_open fs number i k)
  where
    by_number : (b : Bool) → nat_eq f.0 number ≡ b → (d : Bool) → nat_eq f.0 k ≡ d → is_some (locals_in (at_frame number (blank i) fs) k) ≡ is_some (locals_in fs k) → is_some (locals_in (at_frame number (blank i) (f ∷ fs)) k) ≡ is_some (locals_in (f ∷ fs) k)
    by_number true e true q ih = rw (e, q) refl
    by_number true e false q ih = rw (e, q) refl
    by_number false e true q ih = rw (e, q) refl
    by_number false e false q ih = rw (e, q) ih

same_locals : (fs : Frames) (number i k : ℕ) → length (locals_of (at_frame number (blank i) fs) k) ≡ length (locals_of fs k)
same_locals [] number i k = refl
same_locals (f ∷ fs) number i k = by_number (nat_eq f.0 number) refl (nat_eq f.0 k) refl (same_locals fs number i k)
  where
    by_number : (b : Bool) → nat_eq f.0 number ≡ b → (d : Bool) → nat_eq f.0 k ≡ d → length (locals_of (at_frame number (blank i) fs) k) ≡ length (locals_of fs k) → length (locals_of (at_frame number (blank i) (f ∷ fs)) k) ≡ length (locals_of (f ∷ fs) k)
    by_number true e true q ih = rw (e, q) (length-set f.1 i value.Nil)
    by_number true e false q ih = rw (e, q) refl
    by_number false e true q ih = rw (e, q) refl
    by_number false e false q ih = rw (e, q) ih

same_items : (os : List ObjectView) (o i r : ℕ) → length (unwrap_or (slice_get (at_object o (blank i) os) r) no_object).items ≡ length (unwrap_or (slice_get os r) no_object).items
same_items [] o i r = refl
same_items (x ∷ xs) zero i zero = length-set x.items i value.Nil
same_items (x ∷ xs) zero i (suc r) = refl
same_items (x ∷ xs) (suc o) i zero = refl
same_items (x ∷ xs) (suc o) i (suc r) = same_items xs o i r

shape : (x : Spot) (s : StateView) → SameShape (emptied x s) s
shape (spot.Variable slot) s = record { vars = length-set s.vars slot value.Nil; is_open = λ n. refl; locals = λ n. refl; objects = refl; items = λ r. refl }
shape (spot.Local frame slot) s = record { vars = refl; is_open = λ n. same_open s.frames frame slot n; locals = λ n. same_locals s.frames frame slot n; objects = refl; items = λ r. refl }
shape (spot.Item o place) s = record { vars = refl; is_open = λ n. refl; locals = λ n. refl; objects = length-at_object s.objects o (blank place); items = λ r. same_items s.objects o place r }

shapes : (x : Spot) (s t : StateView) → AreAlike x s t → SameShape s t
shapes x s t a = let p = shape x s in let q = shape x t in record {
  vars = sym p.vars ∙ ap (λ (z : StateView). length z.vars) a ∙ q.vars;
  is_open = λ n. sym (p.is_open n) ∙ ap (λ (z : StateView). is_some (locals_in z.frames n)) a ∙ q.is_open n;
  locals = λ n. sym (p.locals n) ∙ ap (λ (z : StateView). length (locals_of z.frames n)) a ∙ q.locals n;
  objects = sym p.objects ∙ ap (λ (z : StateView). length z.objects) a ∙ q.objects;
  items = λ r. sym (p.items r) ∙ ap (λ (z : StateView). length (object z r).items) a ∙ q.items r;
}

none_is : (o : Option (List Value)) → is_some o ≡ false → o ≡ None
none_is None e = refl
none_is (Some values) e = absurd cc

also_ready : (c : Change) (room : Room) (s t : StateView) → SameShape s t → IsReady room c s → IsReady room c t
also_ready (change.Variable slot old) room s t h r = subst (λ (n : ℕ). slot < n) h.vars r
also_ready (change.Local frame slot old) room s t h r = subst (λ (n : ℕ). slot < n) (h.locals frame) r
also_ready (change.Item o place old) room s t h r = subst (λ (n : ℕ). place < n) (h.items o) r
also_ready (change.Grown o count) room s t h r = subst (λ (n : ℕ). o < n) h.objects r
also_ready (change.Cut o cut) room s t h r = let fits = r.1 in let same = h.items o in (subst (λ (n : ℕ). o < n) h.objects r.0, omega arith)
also_ready (change.Opened frame) room s t h r = sym (h.is_open frame) ∙ r
also_ready (change.Closed frame values) room s t h r = (r.0, r.1, none_is (locals_in t.frames frame) (sym (h.is_open frame) ∙ ap is_some r.2))
also_ready change.Made room s t h r = tt

-- Back through entries.

also_ready_entry : (e : Entry) (room : Room) (s t : StateView) → SameShape s t → IsReadyEntry room e s → IsReadyEntry room e t
also_ready_entry entry.Mark room s t h r = tt
also_ready_entry entry.Kept room s t h r = tt
also_ready_entry (entry.Change c) room s t h r = also_ready c room s t h r

still_alike : (x : Spot) (e : Entry) (room : Room) (s t : StateView) → AreAlike x s t → IsReadyEntry room e s → AreAlike x (undone_entry e s) (undone_entry e t)
still_alike x entry.Mark room s t a r = a
still_alike x entry.Kept room s t a r = a
still_alike x (entry.Change c) room s t a r = sym (keeps x c room s r) ∙ ap (λ (z : StateView). emptied x (taken_back c z)) a ∙ keeps x c room t (also_ready c room s t (shapes x s t a) r)

record BothBack (x : Spot) (es : List Entry) (room : Room) (s t : StateView) : Type 0 where
  alike : AreAlike x (replay es s) (replay es t)
  ready : AreReady room es t

both_back : (x : Spot) (es : List Entry) (room : Room) (s t : StateView) → AreAlike x s t → AreReady room es s → BothBack x es room s t
both_back x [] room s t a r = record { alike = a; ready = tt }
both_back x (e ∷ es) room s t a r = let b = both_back x es room s t a r.1 in record {
  alike = still_alike x e room (replay es s) (replay es t) b.alike r.0;
  ready = (also_ready_entry e room (replay es s) (replay es t) (shapes x (replay es s) (replay es t) b.alike) r.0, b.ready);
}

-- the note of a spot does not read what stands there
overlooks : (e : Entry) (x : Spot) → spot_of e ≡ Some x → (s : StateView) → undone_entry e (emptied x s) ≡ undone_entry e s
overlooks entry.Mark x q s = absurd cc
overlooks entry.Kept x q s = absurd cc
overlooks (entry.Change (change.Variable slot old)) x q s = let same : spot.Variable slot ≡ x = cc in
    subst (λ (y : Spot). taken_back (change.Variable slot old) (emptied y s) ≡ taken_back (change.Variable slot old) s) same (ap (with_vars s) (set_twice s.vars slot value.Nil old))
overlooks (entry.Change (change.Local frame slot old)) x q s = let same : spot.Local frame slot ≡ x = cc in
    subst (λ (y : Spot). taken_back (change.Local frame slot old) (emptied y s) ≡ taken_back (change.Local frame slot old) s) same (ap (with_frames s) (frames_set s.frames frame slot value.Nil old))
overlooks (entry.Change (change.Item r place old)) x q s = let same : spot.Item r place ≡ x = cc in
    subst (λ (y : Spot). taken_back (change.Item r place old) (emptied y s) ≡ taken_back (change.Item r place old) s) same (ap (with_objects s) (objects_set s.objects r place value.Nil old))
overlooks (entry.Change (change.Grown r count)) x q s = absurd cc
overlooks (entry.Change (change.Cut r cut)) x q s = absurd cc
overlooks (entry.Change (change.Opened frame)) x q s = absurd cc
overlooks (entry.Change (change.Closed frame values)) x q s = absurd cc
overlooks (entry.Change change.Made) x q s = absurd cc

no_mark_noted : (e : Entry) (x : Spot) → spot_of e ≡ Some x → is_mark e ≡ false
no_mark_noted entry.Mark x q = absurd cc
no_mark_noted entry.Kept x q = refl
no_mark_noted (entry.Change c) x q = refl

record SameBack (n : ℕ) (es : List Entry) (room : Room) (s t : StateView) : Type 0 where
  marks : marks_from n es t ≡ marks_from n es s
  back : replay es t ≡ replay es s
  ready : AreReady room es t

same_back : (x : Spot) (n : ℕ) (es : List Entry) (i : ℕ) → IsNotedAt es i x → HasNoMarkAfter es i → (room : Room) (s t : StateView) → AreAlike x s t → AreReady room es s → SameBack n es room s t
same_back x n [] i noted none room s t a r = absurd cc
same_back x n (e ∷ es) zero noted none room s t a r = let b = both_back x es room s t a r.1 in let quiet = no_mark_noted e x noted in record {
  marks = rw (no_marks (suc n) es t none, no_marks (suc n) es s none, no_mark_here e n (replay es t) quiet, no_mark_here e n (replay es s) quiet) refl;
  back = sym (overlooks e x noted (replay es t)) ∙ ap (undone_entry e) (sym b.alike) ∙ overlooks e x noted (replay es s);
  ready = (also_ready_entry e room (replay es s) (replay es t) (shapes x (replay es s) (replay es t) b.alike) r.0, b.ready);
}
same_back x n (e ∷ es) (suc i) noted none room s t a r = let b = same_back x (suc n) es i noted none room s t a r.1 in record {
  marks = rw (b.marks, b.back) refl;
  back = ap (undone_entry e) b.back;
  ready = (subst (λ (z : StateView). IsReadyEntry room e z) (sym b.back) r.0, b.ready);
}

none_later : (es : List Entry) (e : Entry) → count_of_marks (e ∷ es) ≡ 0 → count_of_marks es ≡ 0
none_later es entry.Mark c = absurd (omega arith)
none_later es entry.Kept c = c
none_later es (entry.Change x) c = c

none_after : (es : List Entry) (m n : ℕ) → m ≤ n → count_of_marks (drop m es) ≡ 0 → count_of_marks (drop n es) ≡ 0
none_after [] m zero le c = refl
none_after [] m (suc n) le c = refl
none_after (e ∷ es) zero zero le c = c
none_after (e ∷ es) zero (suc n) le c = none_after es zero n (omega arith) (none_later es e c)
none_after (e ∷ es) (suc m) zero le c = absurd (omega arith)
none_after (e ∷ es) (suc m) (suc n) le c = none_after es m n (omega arith) c

pub free : (x : Spot) (es : List Entry) (after place : ℕ) → HasNoMarkAfter es after → after < place → IsNotedAt es place x → IsFree x es
free x es after place none lt noted = let later : HasNoMarkAfter es place = none_after es (suc after) (suc place) (omega arith) none in record {
  marks = λ room s t a r. (same_back x 0 es place noted later room s t a r).marks;
  ready = λ room s t a r. (same_back x 0 es place noted later room s t a r).ready;
}

pub free_none : (x : Spot) (es : List Entry) → es ≡ [] → IsFree x es
free_none x es none = subst (λ (z : List Entry). IsFree x z) (sym none) record { marks = λ room s t a r. refl; ready = λ room s t a r. tt }

-- An assignment.

pub alike_variable : (s : StateView) (slot : ℕ) (new : Value) → AreAlike (spot.Variable slot) s (set_variable s slot new)
alike_variable s slot new = sym (ap (with_vars s) (set_twice s.vars slot new value.Nil))

pub alike_local : (s : StateView) (frame slot : ℕ) (new : Value) → AreAlike (spot.Local frame slot) s (set_local s frame slot new)
alike_local s frame slot new = sym (ap (with_frames s) (frames_set s.frames frame slot new value.Nil))

pub alike_item : (s : StateView) (r place : ℕ) (new : Value) → AreAlike (spot.Item r place) s (set_item s r place new)
alike_item s r place new = sym (ap (with_objects s) (objects_set s.objects r place new value.Nil))

pushed : (p : ℕ) (qs : List ℕ) (latest : ℕ) → (older : List ℕ) × (reverse qs ≡ latest ∷ older) → (older : List ℕ) × (reverse (p ∷ qs) ≡ latest ∷ older)
pushed p qs latest l = (l.0 ++ p ∷ [], reverse-append (p ∷ []) qs ∙ ap (λ (rs : List ℕ). rs ++ p ∷ []) l.1)

-- the last place is that of the latest mark
pub latest_first : (places : List ℕ) (latest : ℕ) → slice_get places (length places - 1) ≡ Some latest → (older : List ℕ) × (reverse places ≡ latest ∷ older)
latest_first [] latest e = absurd cc
latest_first (p ∷ []) latest e = let same : p ≡ latest = cc in ([], ap (λ (q : ℕ). q ∷ []) same)
latest_first (p ∷ q ∷ ps) latest e = let k : length (p ∷ q ∷ ps) - 1 ≡ suc (length (q ∷ ps) - 1) = omega arith in
    pushed p (q ∷ ps) latest (latest_first (q ∷ ps) latest (subst (λ (i : ℕ). slice_get (p ∷ q ∷ ps) i ≡ Some latest) k e))

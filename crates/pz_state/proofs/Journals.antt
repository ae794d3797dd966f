-- What one more entry of a journal does to the marks, and what taking one back leaves.
use Rattle.std.proofs.Common.{◌≡◌, ℕ, suc, Bool, true, false, ◌+◌, ◌-◌, ◌≤◌, ◌<◌, List, [], ◌∷◌, ◌++◌, length, take, drop, reverse, get_or, slice_set, refl, ap, subst, sym, ◌∙◌, arith, append_assoc, append-nil}
use Rattle.std.proofs.lemmas.List.{length-take, length-append}
use Rattle.pz_state.specs.declared.journal.Change.{Change}
use Rattle.pz_state.specs.declared.journal.Change.TheVariants as change
use Rattle.pz_state.specs.declared.journal.Entry.{Entry}
use Rattle.pz_state.specs.declared.journal.Entry.TheVariants as entry
use Rattle.pz_state.specs.States.{StateView}
use Rattle.pz_state.specs.devices.StoredStates.{Room, StoredState, IsWider, KeepsRoom}
use Rattle.pz_state.specs.devices.Changes.{taken_back, IsReady}
use Rattle.pz_state.specs.devices.Journals.{undone_entry, replay, mark_here, marks_from, count_of_marks, is_mark, IsReadyEntry, AreReady, Undoes}
use Rattle.pz_state.proofs.ObjectLists.{length-at_object}

abbrev pub one_if_mark : Entry → ℕ
one_if_mark entry.Mark = 1
one_if_mark _ = 0

pub replay_push : (es : List Entry) (x : Entry) (s : StateView) → replay (es ++ x ∷ []) s ≡ replay es (undone_entry x s)
replay_push [] x s = refl
replay_push (e ∷ es) x s = ap (λ (z : StateView). undone_entry e z) (replay_push es x s)

pub marks_push : (n : ℕ) (es : List Entry) (x : Entry) (s : StateView) → marks_from n (es ++ x ∷ []) s ≡ mark_here x (n + length es) s ++ marks_from n es (undone_entry x s)
marks_push n [] x s = sym (append-nil _) ∙ ap (λ k. mark_here x k s ++ []) (omega arith)
marks_push n (e ∷ es) x s = ap (λ ms. ms ++ mark_here e n (replay (es ++ x ∷ []) s)) (marks_push (suc n) es x s)
    ∙ append_assoc (mark_here x (suc n + length es) s) (marks_from (suc n) es (undone_entry x s)) (mark_here e n (replay (es ++ x ∷ []) s))
    ∙ ap (λ z. mark_here x (suc n + length es) s ++ (marks_from (suc n) es (undone_entry x s) ++ mark_here e n z)) (replay_push es x s)
    ∙ ap (λ k. mark_here x k s ++ (marks_from (suc n) es (undone_entry x s) ++ mark_here e n (replay es (undone_entry x s)))) (omega arith)

pub count_push : (es : List Entry) (x : Entry) → count_of_marks (es ++ x ∷ []) ≡ count_of_marks es + one_if_mark x
count_push [] entry.Mark = refl
count_push [] entry.Kept = refl
count_push [] (entry.Change c) = refl
count_push (entry.Mark ∷ es) x = let k = count_push es x in omega arith
count_push (entry.Kept ∷ es) x = count_push es x
count_push (entry.Change c ∷ es) x = count_push es x

pub length-marks : (n : ℕ) (es : List Entry) (s : StateView) → length (marks_from n es s) ≡ count_of_marks es
length-marks n [] s = refl
length-marks n (entry.Mark ∷ es) s = let k = length-marks (suc n) es s in let e = length-append (marks_from (suc n) es s) ((n, replay es s) ∷ []) in omega arith
length-marks n (entry.Kept ∷ es) s = ap length (append-nil (marks_from (suc n) es s)) ∙ length-marks (suc n) es s
length-marks n (entry.Change c ∷ es) s = ap length (append-nil (marks_from (suc n) es s)) ∙ length-marks (suc n) es s

pub no_marks : (n : ℕ) (es : List Entry) (s : StateView) → count_of_marks es ≡ 0 → marks_from n es s ≡ []
no_marks n [] s c = refl
no_marks n (entry.Mark ∷ es) s c = absurd (omega arith)
no_marks n (entry.Kept ∷ es) s c = append-nil _ ∙ no_marks (suc n) es s c
no_marks n (entry.Change x ∷ es) s c = append-nil _ ∙ no_marks (suc n) es s c

-- entries that are no marks

pub no_mark : (x : Entry) → is_mark x ≡ false → one_if_mark x ≡ 0
no_mark entry.Mark q = absurd cc
no_mark entry.Kept q = refl
no_mark (entry.Change c) q = refl

pub mark_is : (x : Entry) → is_mark x ≡ true → x ≡ entry.Mark
mark_is entry.Mark q = refl
mark_is entry.Kept q = absurd cc
mark_is (entry.Change c) q = absurd cc

silent : (x : Entry) → one_if_mark x ≡ 0 → (n : ℕ) (s : StateView) (ms : List (ℕ × StateView)) → mark_here x n s ++ ms ≡ ms
silent entry.Mark q n s ms = absurd (omega arith)
silent entry.Kept q n s ms = refl
silent (entry.Change c) q n s ms = refl

pub marks_silent : (es : List Entry) (x : Entry) (s : StateView) → one_if_mark x ≡ 0 → marks_from 0 (es ++ x ∷ []) s ≡ marks_from 0 es (undone_entry x s)
marks_silent es x s q = marks_push 0 es x s ∙ silent x q (0 + length es) s _

pub marks_marked : (es : List Entry) (s : StateView) → marks_from 0 (es ++ entry.Mark ∷ []) s ≡ (length es, s) ∷ marks_from 0 es s
marks_marked es s = marks_push 0 es entry.Mark s ∙ ap (λ (k : ℕ). (k, s) ∷ marks_from 0 es s) (omega arith)

-- Entries that can be taken back.

fewer_objects : (c : Change) (s : StateView) → length (taken_back c s).objects ≤ length s.objects
fewer_objects (change.Variable slot old) s = omega arith
fewer_objects (change.Local frame slot old) s = omega arith
fewer_objects (change.Item r place old) s = let k = length-at_object s.objects r (λ values. slice_set values place old) in omega arith
fewer_objects (change.Grown r count) s = let k = length-at_object s.objects r (take count) in omega arith
fewer_objects (change.Cut r cut) s = let k = length-at_object s.objects r (λ items. items ++ reverse cut.items) in omega arith
fewer_objects (change.Opened frame) s = omega arith
fewer_objects (change.Closed frame locals) s = omega arith
fewer_objects change.Made s = let k = length-take (length s.objects - 1) s.objects in omega arith

pub fewer_before : (e : Entry) (s : StateView) → length (undone_entry e s).objects ≤ length s.objects
fewer_before entry.Mark s = omega arith
fewer_before entry.Kept s = omega arith
fewer_before (entry.Change c) s = fewer_objects c s

pub fewer_after : (e : Entry) (s s1 : StateView) → s1 ≡ undone_entry e s → length s1.objects ≤ length s.objects
fewer_after e s s1 q = let a = fewer_before e s in let b = ap (λ (z : StateView). length z.objects) q in omega arith

fewer_replayed : (es : List Entry) (s : StateView) → length (replay es s).objects ≤ length s.objects
fewer_replayed [] s = omega arith
fewer_replayed (e ∷ es) s = let a = fewer_before e (replay es s) in let b = fewer_replayed es s in omega arith

-- there is as much room for objects up to some number
pub record Suffices (old new : Room) (count : ℕ) : Type 0 where
  pub frames : old.frames ≤ new.frames
  pub items : (r : ℕ) → r < count → get_or old.items r 0 ≤ get_or new.items r 0

still_ready : {old new : Room} {count : ℕ} → Suffices old new count → (c : Change) (s : StateView) → length s.objects ≤ count → IsReady old c s → IsReady new c s
still_ready f (change.Variable slot old) s le r = r
still_ready f (change.Local frame slot old) s le r = r
still_ready f (change.Item o place old) s le r = r
still_ready f (change.Grown o count) s le r = r
still_ready f (change.Cut o cut) s le r = let there = r.0 in let fits = r.1 in let more = f.items o (omega arith) in (there, omega arith)
still_ready f (change.Opened frame) s le r = r
still_ready f (change.Closed frame locals) s le r = let fits = r.1 in let more = f.frames in (r.0, omega arith, r.2)
still_ready f change.Made s le r = tt

still_ready_entry : {old new : Room} {count : ℕ} → Suffices old new count → (e : Entry) (s : StateView) → length s.objects ≤ count → IsReadyEntry old e s → IsReadyEntry new e s
still_ready_entry f entry.Mark s le r = tt
still_ready_entry f entry.Kept s le r = tt
still_ready_entry f (entry.Change c) s le r = still_ready f c s le r

pub are_still_ready : {old new : Room} {count : ℕ} → Suffices old new count → (es : List Entry) (s : StateView) → length s.objects ≤ count → AreReady old es s → AreReady new es s
are_still_ready f [] s le r = tt
are_still_ready f (e ∷ es) s le r = let fewer = fewer_replayed es s in (still_ready_entry f e (replay es s) (omega arith) r.0, are_still_ready f es s le r.1)

pub wider_suffices : {old new : Room} (count : ℕ) → IsWider old new → Suffices old new count
wider_suffices count w = record { frames = w.frames; items = λ r lt. w.items r }

pub kept_suffices : {old : Room} {new : StoredState} → KeepsRoom old new → Suffices old new.room (length new.state.objects)
kept_suffices k = record { frames = k.frames; items = k.items }

pub ready_push : (room : Room) (es : List Entry) (x : Entry) (s : StateView) → AreReady room es (undone_entry x s) → IsReadyEntry room x s → AreReady room (es ++ x ∷ []) s
ready_push room [] x s r e = (e, tt)
ready_push room (y ∷ es) x s r e = (subst (λ (z : StateView). IsReadyEntry room y z) (sym (replay_push es x s)) r.0, ready_push room es x s r.1 e)

pub ready_pop : (room : Room) (es : List Entry) (x : Entry) (s : StateView) → AreReady room (es ++ x ∷ []) s → AreReady room es (undone_entry x s) × IsReadyEntry room x s
ready_pop room [] x s r = (tt, r.0)
ready_pop room (y ∷ es) x s r = let rest = ready_pop room es x s r.1 in ((subst (λ (z : StateView). IsReadyEntry room y z) (replay_push es x s) r.0, rest.0), rest.1)

-- what is left once the last entry is taken back
pub ready_after : (room : Room) (new : StoredState) (es all : List Entry) (x : Entry) (s : StateView) → all ≡ es ++ x ∷ [] → AreReady room all s → new.state ≡ undone_entry x s → KeepsRoom room new → AreReady new.room es new.state
ready_after room new es all x s e r se k = are_still_ready (kept_suffices k) es new.state (omega arith)
    (subst (λ (z : StateView). AreReady room es z) (sym se) (ready_pop room es x s (subst (λ (j : List Entry). AreReady room j s) e r)).0)

-- Back to the latest mark, one entry after another.

at_mark : (es : List Entry) (s : StateView) (m : ℕ × StateView) (older : List (ℕ × StateView)) → marks_from 0 (es ++ entry.Mark ∷ []) s ≡ m ∷ older → (s ≡ m.1) × (marks_from 0 es s ≡ older)
at_mark es s m older q = let f : (length es, s) ∷ marks_from 0 es s ≡ m ∷ older = sym (marks_marked es s) ∙ q in let g : (length es, s) ≡ m = cc in (ap (λ (p : ℕ × StateView). p.1) g, cc)

pub ends : (s s1 : StateView) (j j1 : List Entry) (x : Entry) → j ≡ j1 ++ x ∷ [] → is_mark x ≡ true → s1 ≡ undone_entry x s → Undoes s j s1 j1
ends s s1 j j1 x je q se m older f = let xe = mark_is x q in
    let k = at_mark j1 s m older (rw (je, xe) at f) in
    let same : s1 ≡ s = se ∙ ap (λ (y : Entry). undone_entry y s) xe in
    (same ∙ k.0, ap (marks_from 0 j1) same ∙ k.1, ap count_of_marks je ∙ ap (λ (y : Entry). count_of_marks (j1 ++ y ∷ [])) xe ∙ count_push j1 entry.Mark ∙ omega arith)

pub goes_back : (s s1 s2 : StateView) (j j1 j2 : List Entry) (x : Entry) → j ≡ j1 ++ x ∷ [] → is_mark x ≡ false → s1 ≡ undone_entry x s → Undoes s1 j1 s2 j2 → Undoes s j s2 j2
goes_back s s1 s2 j j1 j2 x je q se u m older f = let quiet = no_mark x q in
    let before : marks_from 0 j1 s1 ≡ m ∷ older = ap (marks_from 0 j1) se ∙ sym (marks_silent j1 x s quiet) ∙ (rw je at f) in
    let k = u m older before in
    (k.0, k.1, let c = count_push j1 x in let e = ap count_of_marks je in let l = k.2 in omega arith)

-- The latest mark, left.

-- the latest mark of a journal that begins at n
pub record Settles (n : ℕ) (es : List Entry) (s : StateView) (m : ℕ × StateView) (older : List (ℕ × StateView)) : Type 0 where
  pub above : n ≤ m.0
  pub within : m.0 - n < length es
  pub replays : replay (slice_set es (m.0 - n) entry.Kept) s ≡ replay es s
  pub marks : marks_from n (slice_set es (m.0 - n) entry.Kept) s ≡ older
  pub counts : count_of_marks es ≡ suc (count_of_marks (slice_set es (m.0 - n) entry.Kept))
  pub ready : (room : Room) → AreReady room es s → AreReady room (slice_set es (m.0 - n) entry.Kept) s
  pub after : count_of_marks (drop (suc (m.0 - n)) es) ≡ 0

pub no_mark_here : (x : Entry) (n : ℕ) (s : StateView) → is_mark x ≡ false → mark_here x n s ≡ []
no_mark_here x n s q = sym (append-nil _) ∙ silent x (no_mark x q) n s []

count_cons : (x : Entry) (es : List Entry) → is_mark x ≡ false → count_of_marks (x ∷ es) ≡ count_of_marks es
count_cons entry.Mark es q = absurd cc
count_cons entry.Kept es q = refl
count_cons (entry.Change c) es q = refl

later : (n : ℕ) (x : Entry) (es : List Entry) (s : StateView) (m : ℕ × StateView) (older : List (ℕ × StateView)) → is_mark x ≡ false → Settles (suc n) es s m older → Settles n (x ∷ es) s m older
later n x es s m older q t = let k : m.0 - n ≡ suc (m.0 - suc n) = omega (arith, t.above) in record {
  above = omega (arith, t.above);
  within = rw k (omega (arith, t.within));
  replays = rw k (ap (λ (z : StateView). undone_entry x z) t.replays);
  marks = rw k (rw (no_mark_here x n (replay (slice_set es (m.0 - suc n) entry.Kept) s) q) (append-nil _ ∙ t.marks));
  counts = rw k (count_cons x es q ∙ t.counts ∙ ap suc (sym (count_cons x _ q)));
  ready = λ room r. rw k (subst (λ (z : StateView). IsReadyEntry room x z) (sym t.replays) r.0, t.ready room r.1);
  after = rw k t.after;
}

at_last : (n : ℕ) (es : List Entry) (s : StateView) (m : ℕ × StateView) (older : List (ℕ × StateView)) → marks_from (suc n) es s ≡ [] → (n, replay es s) ∷ [] ≡ m ∷ older → Settles n (entry.Mark ∷ es) s m older
at_last n es s m older g f = let k : m.0 ≡ n = ap (λ (p : ℕ × StateView). p.0) (let z : m ≡ (n, replay es s) = cc in z) in let z : m.0 - n ≡ 0 = omega arith in record {
  above = omega arith;
  within = rw z (omega arith);
  replays = rw z refl;
  marks = rw z (append-nil _ ∙ g ∙ cc);
  counts = rw z refl;
  ready = λ room r. rw z r;
  after = rw z (sym (length-marks (suc n) es s) ∙ ap length g);
}

further : (n : ℕ) (es : List Entry) (s : StateView) (m : ℕ × StateView) (ms : List (ℕ × StateView)) → Settles (suc n) es s m ms → Settles n (entry.Mark ∷ es) s m (ms ++ (n, replay es s) ∷ [])
further n es s m ms t = let k : m.0 - n ≡ suc (m.0 - suc n) = omega (arith, t.above) in record {
  above = omega (arith, t.above);
  within = rw k (omega (arith, t.within));
  replays = rw k t.replays;
  marks = rw k (rw (t.marks, t.replays) refl);
  counts = rw k (ap suc t.counts);
  ready = λ room r. rw k (tt, t.ready room r.1);
  after = rw k t.after;
}

marked_by : (n : ℕ) (es : List Entry) (s : StateView) (m : ℕ × StateView) (older : List (ℕ × StateView)) → ((x : ℕ × StateView) (xs : List (ℕ × StateView)) → marks_from (suc n) es s ≡ x ∷ xs → Settles (suc n) es s x xs)
    → (ms : List (ℕ × StateView)) → marks_from (suc n) es s ≡ ms → ms ++ (n, replay es s) ∷ [] ≡ m ∷ older → Settles n (entry.Mark ∷ es) s m older
marked_by n es s m older ih [] g f = at_last n es s m older g f
marked_by n es s m older ih (x ∷ xs) g f = let a : x ≡ m = cc in let b : xs ++ (n, replay es s) ∷ [] ≡ older = cc in
    subst (λ (y : ℕ × StateView). Settles n (entry.Mark ∷ es) s y older) a (subst (λ (ys : List (ℕ × StateView)). Settles n (entry.Mark ∷ es) s x ys) b (further n es s x xs (ih x xs g)))

by_kind : (n : ℕ) (x : Entry) (es : List Entry) (s : StateView) (m : ℕ × StateView) (older : List (ℕ × StateView)) → ((y : ℕ × StateView) (ys : List (ℕ × StateView)) → marks_from (suc n) es s ≡ y ∷ ys → Settles (suc n) es s y ys)
    → (b : Bool) → is_mark x ≡ b → marks_from n (x ∷ es) s ≡ m ∷ older → Settles n (x ∷ es) s m older
by_kind n x es s m older ih true q f = rw (mark_is x q) (marked_by n es s m older ih _ refl (rw (mark_is x q) at f))
by_kind n x es s m older ih false q f = later n x es s m older q (ih m older (sym (append-nil _) ∙ ap (λ z. marks_from (suc n) es s ++ z) (sym (no_mark_here x n (replay es s) q)) ∙ f))

pub settles : (n : ℕ) (es : List Entry) (s : StateView) (m : ℕ × StateView) (older : List (ℕ × StateView)) → marks_from n es s ≡ m ∷ older → Settles n es s m older
settles n [] s m older f = absurd cc
settles n (x ∷ es) s m older f = by_kind n x es s m older (λ y ys g. settles (suc n) es s y ys g) (is_mark x) refl f

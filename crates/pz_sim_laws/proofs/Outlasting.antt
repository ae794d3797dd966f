-- As time passes, what does not name the clock sends, receives and says the same.
use Rattle.std.proofs.Common.{◌≡◌, ◌+◌, ℕ, suc, Bool, true, false, ◌||◌, List, [], ◌∷◌, ◌++◌, map, Option, Some, None, Result, Ok, Err, refl, sym, ap, ◌∙◌}
use Rattle.std.specs.List.{cons_option}
use Rattle.std.proofs.lemmas.Bool.{true≢false}
use Rattle.pz_tree_standing.specs.pz_syntax.declared.tokens.Pos.{Pos}
use Rattle.pz_tree_standing.specs.pz_syntax.Expressions.{Part, left_out, written}
use Rattle.pz_tree_standing.specs.pz_syntax.Statements as statement
use Rattle.pz_tree_standing.specs.pz_value.declared.value.ClassId.{ClassId}
use Rattle.pz_tree_standing.specs.pz_classes_code.declared.slot.Slot.{Slot}
use Rattle.pz_tree_standing.specs.pz_offer.declared.trouble.Trouble.{Trouble}
use Rattle.pz_tree_standing.specs.pz_offer.PlaceOrder.{Place}
use Rattle.pz_tree_standing.specs.pz_eval_rules.Clocks.{names_clock, part_names_clock, DataIsTimeless}
use Rattle.pz_tree_standing.specs.pz_eval_rules.devices.Laws.{UnclockedListIsComputedTheSame}
use Rattle.pz_tree_standing.specs.pz_eval_rules.devices.Outcomes.{listed_of, state_after}
use Rattle.pz_tree_standing.specs.pz_rules.Terms.{Code, Step, Term, done, leaf, wait, sequence, parallel, select, guarded, frame, abort, idle, handling, Terms, no_terms, and}
use Rattle.pz_tree_standing.specs.pz_rules.Settings.{Context}
use Rattle.pz_tree_standing.specs.pz_rules.Evaluations.{allowance, values_or_trouble}
use Rattle.pz_tree_standing.specs.pz_rules.devices.Found.{tested, lasting, found_part, left_part}
use Rattle.pz_tree_standing.specs.pz_rules.devices.Passing.{passed, passed_all, begun, if_open}
use Rattle.pz_tree_standing.specs.pz_rules.devices.Walk.{ActivePart, Noted, here, under, behind, active_parts, active_children, noted, noted_at, sending, sent_by, received_by, active_sends, active_receives}
use Rattle.pz_tree_standing.specs.Steady.{later}
use Rattle.pz_tree_standing.specs.Woken.{any_part, statement_names_clock, is_clocked, clocked}
use Rattle.pz_tree_standing.specs.devices.SummaryLaws.{TestIsSteady}

-- no part names the clock

pub or_neither : (a b : Bool) → a || b ≡ false → (a ≡ false) × (b ≡ false)
or_neither false b e = (refl, e)
or_neither true b e = absurd (true≢false e)

pub neither_part : (q : Term → Bool) (ps qs : List ActivePart) → any_part q (ps ++ qs) ≡ false → (any_part q ps ≡ false) × (any_part q qs ≡ false)
neither_part q [] qs h = (refl, h)
neither_part q (p ∷ ps) qs h =
    let e = or_neither (q p.part) (any_part q (ps ++ qs)) h in
    let r = neither_part q ps qs e.1 in
    (λ i. e.0 i || r.0 i, r.1)

pub none_under : (q : Term → Bool) (i : ℕ) (ps : List ActivePart) → any_part q (map (under i) ps) ≡ false → any_part q ps ≡ false
none_under q i [] h = refl
none_under q i (p ∷ ps) h =
    let e = or_neither (q p.part) (any_part q (map (under i) ps)) h in
    λ n. e.0 n || none_under q i ps e.1 n

-- What is noted of parts, one behind the other and further in

module _ {X : Type 0} where
  abbrev lifted : ℕ → Noted X → Noted X
  lifted i n = record { place = i ∷ n.place; what = n.what }

  cons_more : (o : Option (Noted X)) (ns ks : List (Noted X)) → cons_option o (ns ++ ks) ≡ cons_option o ns ++ ks
  cons_more None ns ks = refl
  cons_more (Some n) ns ks = refl

  noted_append : (h : ℕ → Term → Option X) (ps qs : List ActivePart) → noted h (ps ++ qs) ≡ noted h ps ++ noted h qs
  noted_append h [] qs = refl
  noted_append h (p ∷ ps) qs = ap (cons_option (noted_at p.place (h p.frame p.part))) (noted_append h ps qs) ∙ cons_more (noted_at p.place (h p.frame p.part)) (noted h ps) (noted h qs)

  cons_under : (i : ℕ) (place : Place) (o : Option X) (ns : List (Noted X)) → cons_option (noted_at (i ∷ place) o) (map (lifted i) ns) ≡ map (lifted i) (cons_option (noted_at place o) ns)
  cons_under i place None ns = refl
  cons_under i place (Some x) ns = refl

  noted_under : (h : ℕ → Term → Option X) (i : ℕ) (ps : List ActivePart) → noted h (map (under i) ps) ≡ map (lifted i) (noted h ps)
  noted_under h i [] = refl
  noted_under h i (p ∷ ps) = ap (cons_option (noted_at (i ∷ p.place) (h p.frame p.part))) (noted_under h i ps) ∙ cons_under i p.place (h p.frame p.part) (noted h ps)

  -- nothing is noted of the first part
  noted_tail : (h : ℕ → Term → Option X) (p : ActivePart) (ps : List ActivePart) → h p.frame p.part ≡ None → noted h (p ∷ ps) ≡ noted h ps
  noted_tail h p ps e = ap (λ (o : Option X). cons_option (noted_at p.place o) (noted h ps)) e

abbrev IsInner : Term → Type 0
IsInner (leaf s) = ⊥
IsInner t = Unit {0}

module _ (a : Context) (d : ℕ) (tests : TestIsSteady) (methods : DataIsTimeless a.setting.model) where
  -- what a leaf leaves has no parts
  begun_alone : (b : Context) (f : ℕ) (at : Pos) (e : Code) (r : Result ℕ Trouble) → active_parts b f (begun d at e r) ≡ here f (begun d at e r) ∷ []
  begun_alone b f at e (Ok left) = refl
  begun_alone b f at e (Err t) = refl

  leaf_alone : (b : Context) (f : ℕ) (s : Step) → active_parts b f (passed a d f (leaf s)) ≡ here f (passed a d f (leaf s)) ∷ []
  leaf_alone b f (statement.skip at) = refl
  leaf_alone b f (statement.delay at e) = begun_alone b f at e (lasting a f at e)
  leaf_alone b f (statement.bracketed at ts) = refl
  leaf_alone b f (statement.block at es) = refl
  leaf_alone b f (statement.guarded at e t) = refl
  leaf_alone b f (statement.parallel at bs) = refl
  leaf_alone b f (statement.select at bs) = refl
  leaf_alone b f (statement.conditional at e ts other) = refl
  leaf_alone b f (statement.repeated at e ts) = refl
  leaf_alone b f (statement.abort at ts t) = refl
  leaf_alone b f (statement.interrupt at ts t) = refl
  leaf_alone b f (statement.send at port name args after) = refl
  leaf_alone b f (statement.receive at port name into condition after) = refl
  leaf_alone b f (statement.call at method args results) = refl
  leaf_alone b f (statement.assignment at x e) = refl
  leaf_alone b f (statement.value at e) = refl

  -- What is noted of leaves alone, and is so of those that do not name the clock
  module _ {X : Type 0} (h k : ℕ → Term → Option X) (no_h : (f : ℕ) (t : Term) → IsInner t → h f t ≡ None) (no_k : (f : ℕ) (t : Term) → IsInner t → k f t ≡ None)
      (same : (f : ℕ) (s : Step) → statement_names_clock s ≡ false → k f (passed a d f (leaf s)) ≡ h f (leaf s)) where
    abbrev Keeps : ℕ → Term → Type 0
    Keeps f t = noted k (active_parts (later a d) f (passed a d f t)) ≡ noted h (active_parts a f t)

    under_both : (i : ℕ) (ps qs : List ActivePart) → noted k ps ≡ noted h qs → noted k (map (under i) ps) ≡ noted h (map (under i) qs)
    under_both i ps qs e = noted_under k i ps ∙ ap (map (lifted i)) e ∙ sym (noted_under h i qs)

    append_both : (ps qs ps1 qs1 : List ActivePart) → noted k ps ≡ noted h qs → noted k ps1 ≡ noted h qs1 → noted k (ps ++ ps1) ≡ noted h (qs ++ qs1)
    append_both ps qs ps1 qs1 e g = noted_append k ps ps1 ∙ (λ i. e i ++ g i) ∙ sym (noted_append h qs qs1)

    -- of the parts of a term that is no leaf
    inner : (f : ℕ) (t x : Term) (ps qs : List ActivePart) → IsInner t → IsInner x → noted k ps ≡ noted h qs → noted k (here f x ∷ ps) ≡ noted h (here f t ∷ qs)
    inner f t x ps qs in_t in_x e = noted_tail k (here f x) ps (no_k f x in_x) ∙ e ∙ sym (noted_tail h (here f t) qs (no_h f t in_t))

    gate : (f : ℕ) (r : Result Bool Trouble) (t : Term) → any_part is_clocked (behind r (map (under 0) (active_parts a f t))) ≡ false → (any_part is_clocked (active_parts a f t) ≡ false → Keeps f t)
        → noted k (behind r (map (under 0) (active_parts (later a d) f (if_open r (passed a d f t) t)))) ≡ noted h (behind r (map (under 0) (active_parts a f t)))
    gate f (Ok true) t calm go = under_both 0 (active_parts (later a d) f (passed a d f t)) (active_parts a f t) (go (none_under is_clocked 0 (active_parts a f t) calm))
    gate f (Ok false) t calm go = refl
    gate f (Err u) t calm go = refl

    mutual
      pub keeps : (f : ℕ) (t : Term) → any_part is_clocked (active_parts a f t) ≡ false → Keeps f t
      keeps f done calm = inner f done done [] [] tt tt refl
      keeps f (leaf s) calm =
          ap (noted k) (leaf_alone (later a d) f s)
          ∙ ap (λ (o : Option X). cons_option (noted_at [] o) []) (same f s (or_neither (statement_names_clock s) false calm).0)
      keeps f (wait left at) calm = inner f (wait left at) (passed a d f (wait left at)) [] [] tt tt refl
      keeps f (sequence t rest) calm =
          inner f (sequence t rest) (sequence (passed a d f t) rest) (map (under 0) (active_parts (later a d) f (passed a d f t))) (map (under 0) (active_parts a f t)) tt tt
          (under_both 0 (active_parts (later a d) f (passed a d f t)) (active_parts a f t) (keeps f t (none_under is_clocked 0 (active_parts a f t) calm)))
      keeps f (parallel ts) calm = inner f (parallel ts) (parallel (passed_all a d f ts)) (active_children (later a d) f 0 (passed_all a d f ts)) (active_children a f 0 ts) tt tt (keeps_all f 0 ts calm)
      keeps f (select ts) calm = inner f (select ts) (select (passed_all a d f ts)) (active_children (later a d) f 0 (passed_all a d f ts)) (active_children a f 0 ts) tt tt (keeps_all f 0 ts calm)
      keeps f (guarded test at t) calm =
          let e = or_neither (names_clock test) (any_part is_clocked (behind (tested a f at test) (map (under 0) (active_parts a f t)))) calm in
          let x : Term = if_open (tested a f at test) (passed a d f t) t in
          inner f (guarded test at t) (guarded test at x) (behind (tested (later a d) f at test) (map (under 0) (active_parts (later a d) f x))) (behind (tested a f at test) (map (under 0) (active_parts a f t))) tt tt
          (ap (λ (r : Result Bool Trouble). noted k (behind r (map (under 0) (active_parts (later a d) f x)))) (tests a d f at test methods e.0)
          ∙ gate f (tested a f at test) t e.1 (λ c. keeps f t c))
      keeps f (frame number inputs results t) calm =
          inner f (frame number inputs results t) (frame number inputs results (passed a d number t)) (map (under 0) (active_parts (later a d) number (passed a d number t))) (map (under 0) (active_parts a number t)) tt tt
          (under_both 0 (active_parts (later a d) number (passed a d number t)) (active_parts a number t) (keeps number t (none_under is_clocked 0 (active_parts a number t) calm)))
      keeps f (abort t u) calm =
          let e = neither_part is_clocked (map (under 0) (active_parts a f t)) (map (under 1) (active_parts a f u)) calm in
          inner f (abort t u) (abort (passed a d f t) (passed a d f u)) (map (under 0) (active_parts (later a d) f (passed a d f t)) ++ map (under 1) (active_parts (later a d) f (passed a d f u)))
          (map (under 0) (active_parts a f t) ++ map (under 1) (active_parts a f u)) tt tt
          (append_both (map (under 0) (active_parts (later a d) f (passed a d f t))) (map (under 0) (active_parts a f t)) (map (under 1) (active_parts (later a d) f (passed a d f u))) (map (under 1) (active_parts a f u))
          (under_both 0 (active_parts (later a d) f (passed a d f t)) (active_parts a f t) (keeps f t (none_under is_clocked 0 (active_parts a f t) e.0)))
          (under_both 1 (active_parts (later a d) f (passed a d f u)) (active_parts a f u) (keeps f u (none_under is_clocked 1 (active_parts a f u) e.1))))
      keeps f (idle t u again) calm =
          let e = neither_part is_clocked (map (under 0) (active_parts a f t)) (map (under 1) (active_parts a f u)) calm in
          inner f (idle t u again) (idle (passed a d f t) (passed a d f u) again) (map (under 0) (active_parts (later a d) f (passed a d f t)) ++ map (under 1) (active_parts (later a d) f (passed a d f u)))
          (map (under 0) (active_parts a f t) ++ map (under 1) (active_parts a f u)) tt tt
          (append_both (map (under 0) (active_parts (later a d) f (passed a d f t))) (map (under 0) (active_parts a f t)) (map (under 1) (active_parts (later a d) f (passed a d f u))) (map (under 1) (active_parts a f u))
          (under_both 0 (active_parts (later a d) f (passed a d f t)) (active_parts a f t) (keeps f t (none_under is_clocked 0 (active_parts a f t) e.0)))
          (under_both 1 (active_parts (later a d) f (passed a d f u)) (active_parts a f u) (keeps f u (none_under is_clocked 1 (active_parts a f u) e.1))))
      keeps f (handling t u again) calm =
          inner f (handling t u again) (handling t (passed a d f u) again) (map (under 1) (active_parts (later a d) f (passed a d f u))) (map (under 1) (active_parts a f u)) tt tt
          (under_both 1 (active_parts (later a d) f (passed a d f u)) (active_parts a f u) (keeps f u (none_under is_clocked 1 (active_parts a f u) calm)))

      keeps_all : (f n : ℕ) (ts : Terms) → any_part is_clocked (active_children a f n ts) ≡ false → noted k (active_children (later a d) f n (passed_all a d f ts)) ≡ noted h (active_children a f n ts)
      keeps_all f n no_terms calm = refl
      keeps_all f n (and t ts) calm =
          let e = neither_part is_clocked (map (under n) (active_parts a f t)) (active_children a f (suc n) ts) calm in
          append_both (map (under n) (active_parts (later a d) f (passed a d f t))) (map (under n) (active_parts a f t)) (active_children (later a d) f (suc n) (passed_all a d f ts)) (active_children a f (suc n) ts)
          (under_both n (active_parts (later a d) f (passed a d f t)) (active_parts a f t) (keeps f t (none_under is_clocked n (active_parts a f t) e.0)))
          (keeps_all f (suc n) ts e.1)

  -- Sends

  no_send : (b : Context) (f : ℕ) (t : Term) → IsInner t → sent_by b f t ≡ None
  no_send b f done h = refl
  no_send b f (leaf s) h = absurd h
  no_send b f (wait left at) h = refl
  no_send b f (sequence t rest) h = refl
  no_send b f (parallel ts) h = refl
  no_send b f (select ts) h = refl
  no_send b f (guarded test at t) h = refl
  no_send b f (frame number inputs results t) h = refl
  no_send b f (abort t u) h = refl
  no_send b f (idle t u again) h = refl
  no_send b f (handling t u again) h = refl

  begun_sends : (b : Context) (f : ℕ) (at : Pos) (e : Code) (r : Result ℕ Trouble) → sent_by b f (begun d at e r) ≡ None
  begun_sends b f at e (Ok left) = refl
  begun_sends b f at e (Err t) = refl

  module _ (lists : UnclockedListIsComputedTheSame) where
    part_same : (f : ℕ) (at : Pos) (es : Part Slot ClassId) → part_names_clock es ≡ false → found_part (later a d) f at es ≡ found_part a f at es
    part_same f at left_out h = refl
    part_same f at (written es) h =
        ap (λ r. values_or_trouble a.process at (listed_of r))
        (lists a.setting.model a.clock (a.clock + d) f a.state es (allowance a.setting.limits) methods h)

    left_same : (f : ℕ) (es : Part Slot ClassId) → part_names_clock es ≡ false → left_part (later a d) f es ≡ left_part a f es
    left_same f left_out h = refl
    left_same f (written es) h =
        ap (state_after a.state) (lists a.setting.model a.clock (a.clock + d) f a.state es (allowance a.setting.limits) methods h)

    same_send : (f : ℕ) (s : Step) → statement_names_clock s ≡ false → sent_by (later a d) f (passed a d f (leaf s)) ≡ sent_by a f (leaf s)
    same_send f (statement.skip at) h = refl
    same_send f (statement.delay at e) h = begun_sends (later a d) f at e (lasting a f at e)
    same_send f (statement.bracketed at ts) h = refl
    same_send f (statement.block at es) h = refl
    same_send f (statement.guarded at e t) h = refl
    same_send f (statement.parallel at bs) h = refl
    same_send f (statement.select at bs) h = refl
    same_send f (statement.conditional at e ts other) h = refl
    same_send f (statement.repeated at e ts) h = refl
    same_send f (statement.abort at ts t) h = refl
    same_send f (statement.interrupt at ts t) h = refl
    same_send f (statement.send at port name args after) h = λ i. sending at port name.name (left_same f args h i) (part_same f at args h i)
    same_send f (statement.receive at port name into condition after) h = refl
    same_send f (statement.call at method args results) h = refl
    same_send f (statement.assignment at x e) h = refl
    same_send f (statement.value at e) h = refl

    pub sends_kept : (t : Term) → clocked a 0 t ≡ false → active_sends (later a d) (passed a d 0 t) ≡ active_sends a t
    sends_kept t calm = keeps (sent_by a) (sent_by (later a d)) (no_send a) (no_send (later a d)) same_send 0 t calm

  -- Receives

  no_receive : (f : ℕ) (t : Term) → IsInner t → received_by t ≡ None
  no_receive f done h = refl
  no_receive f (leaf s) h = absurd h
  no_receive f (wait left at) h = refl
  no_receive f (sequence t rest) h = refl
  no_receive f (parallel ts) h = refl
  no_receive f (select ts) h = refl
  no_receive f (guarded test at t) h = refl
  no_receive f (frame number inputs results t) h = refl
  no_receive f (abort t u) h = refl
  no_receive f (idle t u again) h = refl
  no_receive f (handling t u again) h = refl

  begun_receives : (at : Pos) (e : Code) (r : Result ℕ Trouble) → received_by (begun d at e r) ≡ None
  begun_receives at e (Ok left) = refl
  begun_receives at e (Err t) = refl

  same_receive : (f : ℕ) (s : Step) → statement_names_clock s ≡ false → received_by (passed a d f (leaf s)) ≡ received_by (leaf s)
  same_receive f (statement.skip at) h = refl
  same_receive f (statement.delay at e) h = begun_receives at e (lasting a f at e)
  same_receive f (statement.bracketed at ts) h = refl
  same_receive f (statement.block at es) h = refl
  same_receive f (statement.guarded at e t) h = refl
  same_receive f (statement.parallel at bs) h = refl
  same_receive f (statement.select at bs) h = refl
  same_receive f (statement.conditional at e ts other) h = refl
  same_receive f (statement.repeated at e ts) h = refl
  same_receive f (statement.abort at ts t) h = refl
  same_receive f (statement.interrupt at ts t) h = refl
  same_receive f (statement.send at port name args after) h = refl
  same_receive f (statement.receive at port name into condition after) h = refl
  same_receive f (statement.call at method args results) h = refl
  same_receive f (statement.assignment at x e) h = refl
  same_receive f (statement.value at e) h = refl

  pub receives_kept : (t : Term) → clocked a 0 t ≡ false → active_receives (later a d) (passed a d 0 t) ≡ active_receives a t
  receives_kept t calm = keeps (λ f. received_by) (λ f. received_by) no_receive no_receive same_receive 0 t calm

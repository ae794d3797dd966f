-- Events with one line have one point.
use Rattle.std.proofs.Common.{◌≡◌, refl, sym, ap, subst, ◌∙◌, ℕ, suc, List, [], ◌∷◌, ◌++◌, Option, Some, None, arith, codes, append_assoc}
use Rattle.std.specs.Prelude.{nat_eq, slice_get}
use Rattle.std.specs.Option.{option_map_or}
use Rattle.std.specs.Fmt.{decimal}
use Rattle.std.proofs.lemmas.List.Folds.{list_any-append}
use Rattle.pz_bind.specs.pz_syntax.declared.tokens.Pos.{Pos}
use Rattle.pz_bind.specs.pz_syntax.Classes.{ModelTree}
use Rattle.pz_bind.specs.pz_classes_rules.ClassNames.{class_names}
use Rattle.pz_bind_levels.specs.Places.{Address}
use Rattle.pz_bind_levels.specs.Wires.{Channel}
use Rattle.pz_trace.specs.pz_bind_rules.Nest.{processes}
use Rattle.pz_trace.specs.pz_bind_rules.Names.{path, wire_name, name_at}
use Rattle.pz_trace.specs.pz_bind_rules.Wires.{wires}
use Rattle.pz_trace.specs.pz_copy.Parcels.{ParcelView}
use Rattle.pz_trace.specs.pz_copy.ParcelText.{values_text, objects_text}
use Rattle.pz_trace.specs.pz_rules.declared.action.Kind.{Kind}
use Rattle.pz_trace.specs.pz_rules.declared.action.Kind.TheVariants as kind
use Rattle.pz_trace.specs.pz_rules.declared.action.Action.{Action}
use Rattle.pz_trace.specs.pz_rules.declared.action.Action.TheVariants.{Internal, Comm}
use Rattle.pz_trace.specs.pz_rules.Runs.{Event, acted, passed}
use Rattle.pz_trace.specs.Words.{kind_word, pos_text}
use Rattle.pz_trace.specs.Labels.{path_of, wire_of, label}
use Rattle.pz_trace.specs.Lines.{newline}
use Rattle.pz_trace.specs.TraceText.{event_line}
use Rattle.pz_trace.proofs.Digits.{head_is, tail_is, lacks_first, lacks_rest, cut_once, decimal_lacks, decimal_begins}
use Rattle.pz_trace.proofs.Numerals.{decimal_once}
use Rattle.pz_watch.specs.Points.{Happening, internal, communication, Point}
use Rattle.pz_watch_points.specs.EventPoints.{happening_of, event_point}
use Rattle.pz_watch_points.specs.Laws.{Lacks, HasPlainNames, HasPlainMessage, HasPlainEvent, OneLineOnePoint}

-- texts without a blank

joined : (a b : List ℕ) → Lacks 32 a → Lacks 32 b → Lacks 32 (a ++ b)
joined a b one other = list_any-append (nat_eq 32) a b ∙ rw (one, other) refl

path_plain : (m : ModelTree) → HasPlainNames m → (place : Address) → Lacks 32 (path m place)
path_plain m plain [] = refl
path_plain m plain (i ∷ []) = plain [] i
path_plain m plain (i ∷ j ∷ up) =
    joined (path m (j ∷ up)) (codes "." ++ name_at m (j ∷ up) i) (path_plain m plain (j ∷ up))
    (joined (codes ".") (name_at m (j ∷ up) i) refl (plain (j ∷ up) i))

channel_plain : (m : ModelTree) → HasPlainNames m → (c : Channel) → Lacks 32 (wire_name m c)
channel_plain m plain c =
    joined (path m c.place) (codes "#" ++ decimal (suc c.number)) (path_plain m plain c.place)
    (joined (codes "#") (decimal (suc c.number)) refl (decimal_lacks 32 (suc c.number) (omega arith)))

found_plain : {A : Type 0} (f : A → List ℕ) → ((x : A) → Lacks 32 (f x)) → (o : Option A) → Lacks 32 (option_map_or f o [])
found_plain f each None = refl
found_plain f each (Some x) = each x

process_plain : (m : ModelTree) → HasPlainNames m → (i : ℕ) → Lacks 32 (path_of m i)
process_plain m plain i = found_plain (path m) (path_plain m plain) (slice_get (processes m) i)

wire_plain : (m : ModelTree) → HasPlainNames m → (w : ℕ) → Lacks 32 (wire_of m w)
wire_plain m plain w = found_plain (wire_name m) (channel_plain m plain) (slice_get (wires m) w)

kind_plain : (k : Kind) → Lacks 32 (kind_word k)
kind_plain kind.Skip = refl
kind_plain kind.Eval = refl
kind_plain kind.Test = refl
kind_plain kind.Expire = refl
kind_plain kind.Call = refl

-- the last place of a byte cuts a text in one way

lacks_within : (x : ℕ) (a b : List ℕ) → Lacks x (a ++ (x ∷ b)) → ⊥
lacks_within x [] b lacks = lacks_first x x b lacks refl
lacks_within x (y ∷ a) b lacks = lacks_within x a b (lacks_rest x y (a ++ (x ∷ b)) lacks)

cut_last : (x : ℕ) (a b c d : List ℕ) → Lacks x b → Lacks x d → a ++ (x ∷ b) ≡ c ++ (x ∷ d) → b ≡ d
cut_last x [] b [] d none other e = tail_is e
cut_last x [] b (y ∷ c) d none other e = absurd (lacks_within x c d (subst (Lacks x) (tail_is e) none))
cut_last x (y ∷ a) b [] d none other e = absurd (lacks_within x a b (subst (Lacks x) (sym (tail_is e)) other))
cut_last x (y ∷ a) b (z ∷ c) d none other e = cut_last x a b c d none other (tail_is e)

no_end : (a : List ℕ) (x : ℕ) → [] ≡ a ++ (x ∷ []) → ⊥
no_end [] x e = cc
no_end (y ∷ a) x e = cc

cancel_end : (a b : List ℕ) (x : ℕ) → a ++ (x ∷ []) ≡ b ++ (x ∷ []) → a ≡ b
cancel_end [] [] x e = refl
cancel_end [] (y ∷ b) x e = absurd (no_end b x (tail_is e))
cancel_end (y ∷ a) [] x e = absurd (no_end a x (sym (tail_is e)))
cancel_end (y ∷ a) (z ∷ b) x e = ap (λ (n : ℕ). n ∷ a) (head_is e) ∙ ap (λ (l : List ℕ). z ∷ l) (cancel_end a b x (tail_is e))

-- what stands before the first place of a byte in a front, and what is left

record Cut (first other rest left : List ℕ) : Type 0 where
  same_first : first ≡ other
  same_rest : rest ≡ left

front_once : (x : ℕ) (first other rest left more last : List ℕ) → Lacks x first → Lacks x other → (first ++ (x ∷ rest)) ++ more ≡ (other ++ (x ∷ left)) ++ last → Cut first other (rest ++ more) (left ++ last)
front_once x first other rest left more last one two e =
    let cut = cut_once x first (rest ++ more) other (left ++ last) one two (sym (append_assoc first (x ∷ rest) more) ∙ e ∙ append_assoc other (x ∷ left) last) in
    record { same_first = cut.same_line; same_rest = cut.same_rest }

-- labels

-- what is told of an internal action behind its path
abbrev inside : Kind → Pos → List ℕ
inside k at = kind_word k ++ (32 ∷ pos_text at)

module _ (m : ModelTree) (plain : HasPlainNames m) where
  -- of a communication behind the message
  abbrev along : ParcelView → List ℕ
  along parcel = values_text parcel.values ++ 41 ∷ objects_text (class_names m) parcel.objects

  -- behind the wire
  abbrev behind_path : List ℕ → ParcelView → List ℕ
  behind_path message parcel = 33 ∷ 32 ∷ (message ++ 40 ∷ along parcel)

  abbrev sent : ℕ → List ℕ → ParcelView → List ℕ
  sent i message parcel = path_of m i ++ (32 ∷ behind_path message parcel)

  abbrev arrow : ℕ → List ℕ
  arrow i = 32 ∷ 45 ∷ 62 ∷ 32 ∷ path_of m i

  pos_apart : (at : Pos) (rest left : List ℕ) → pos_text at ++ rest ≡ 33 ∷ left → ⊥
  pos_apart at rest left e =
      let begins = decimal_begins at.line in
      let first : begins.first ≡ 33 = head_is (sym (ap (λ (l : List ℕ). (l ++ (codes ":" ++ decimal at.column)) ++ rest) begins.is) ∙ e) in
      omega (arith, begins.low, first)

  apart : (i : ℕ) (k : Kind) (at : Pos) (w s r : ℕ) (message : List ℕ) (parcel : ParcelView)
      → (path_of m i ++ (32 ∷ inside k at)) ++ newline ≡ (wire_of m w ++ (32 ∷ (sent s message parcel ++ arrow r))) ++ newline → ⊥
  apart i k at w s r message parcel e =
      let one = front_once 32 (path_of m i) (wire_of m w) (inside k at) (sent s message parcel ++ arrow r) newline newline (process_plain m plain i) (wire_plain m plain w) e in
      let two = front_once 32 (kind_word k) (path_of m s) (pos_text at) (behind_path message parcel) newline (arrow r ++ newline) (kind_plain k) (process_plain m plain s)
      (one.same_rest ∙ append_assoc (sent s message parcel) (arrow r) newline) in
      pos_apart at newline (32 ∷ ((message ++ 40 ∷ along parcel) ++ (arrow r ++ newline))) two.same_rest

  same_inside : (i j : ℕ) (k l : Kind) (at other : Pos)
      → (path_of m i ++ (32 ∷ inside k at)) ++ newline ≡ (path_of m j ++ (32 ∷ inside l other)) ++ newline → internal (path_of m i) (kind_word k) ≡ internal (path_of m j) (kind_word l)
  same_inside i j k l at other e =
      let one = front_once 32 (path_of m i) (path_of m j) (inside k at) (inside l other) newline newline (process_plain m plain i) (process_plain m plain j) e in
      let two = front_once 32 (kind_word k) (kind_word l) (pos_text at) (pos_text other) newline newline (kind_plain k) (kind_plain l) one.same_rest in
      ap (λ (p : List ℕ). internal p (kind_word k)) one.same_first ∙ ap (λ (w : List ℕ). internal (path_of m j) w) two.same_first

  -- the last word
  same_receiver : (p q : List ℕ) (r t : ℕ) → p ++ (arrow r ++ newline) ≡ q ++ (arrow t ++ newline) → path_of m r ≡ path_of m t
  same_receiver p q r t e =
      let front = 32 ∷ 45 ∷ 62 ∷ [] in
      let one = path_of m r ++ newline in
      let two = path_of m t ++ newline in
      let cut : (p ++ front) ++ (32 ∷ one) ≡ (q ++ front) ++ (32 ∷ two) = append_assoc p front (32 ∷ one) ∙ e ∙ sym (append_assoc q front (32 ∷ two)) in
      cancel_end (path_of m r) (path_of m t) 10
      (cut_last 32 (p ++ front) one (q ++ front) two (joined (path_of m r) newline (process_plain m plain r) refl) (joined (path_of m t) newline (process_plain m plain t) refl) cut)

  same_sent : (w v s u r t : ℕ) (message name : List ℕ) (parcel other : ParcelView) → Lacks 40 message → Lacks 40 name
      → (wire_of m w ++ (32 ∷ (sent s message parcel ++ arrow r))) ++ newline ≡ (wire_of m v ++ (32 ∷ (sent u name other ++ arrow t))) ++ newline
      → communication message (path_of m s) (path_of m r) ≡ communication name (path_of m u) (path_of m t)
  same_sent w v s u r t message name parcel other has has' e =
      let one = front_once 32 (wire_of m w) (wire_of m v) (sent s message parcel ++ arrow r) (sent u name other ++ arrow t) newline newline (wire_plain m plain w) (wire_plain m plain v) e in
      let two = front_once 32 (path_of m s) (path_of m u) (behind_path message parcel) (behind_path name other) (arrow r ++ newline) (arrow t ++ newline)
      (process_plain m plain s) (process_plain m plain u)
      (sym (append_assoc (sent s message parcel) (arrow r) newline) ∙ one.same_rest ∙ append_assoc (sent u name other) (arrow t) newline) in
      let three = front_once 40 message name (along parcel) (along other) (arrow r ++ newline) (arrow t ++ newline) has has' (tail_is (tail_is two.same_rest)) in
      ap (λ (x : List ℕ). communication x (path_of m s) (path_of m r)) three.same_first
      ∙ ap (λ (x : List ℕ). communication name x (path_of m r)) two.same_first
      ∙ ap (λ (x : List ℕ). communication name (path_of m u) x) (same_receiver (along parcel) (along other) r t three.same_rest)

  same_label : (a b : Action) → HasPlainMessage a → HasPlainMessage b → label m a ++ newline ≡ label m b ++ newline → happening_of m a ≡ happening_of m b
  same_label (Internal at k pos) (Internal to l other) has has' e = same_inside at.process to.process k l pos other e
  same_label (Internal at k pos) (Comm w s r message parcel) has has' e = absurd (apart at.process k pos w s.process r.process message parcel e)
  same_label (Comm w s r message parcel) (Internal at k pos) has has' e = absurd (apart at.process k pos w s.process r.process message parcel (sym e))
  same_label (Comm w s r message parcel) (Comm v u t name other) has has' e =
      same_sent w v s.process u.process r.process t.process message name parcel other has has' e

  -- lines

  abbrev behind_clock : Event → List ℕ
  behind_clock (acted clock n k a) = decimal n ++ (32 ∷ (decimal k ++ (32 ∷ (label m a ++ newline))))
  behind_clock (passed clock d) = codes "time " ++ (decimal d ++ newline)

  line_is : (e : Event) → event_line m e ≡ decimal (event_point m e).clock ++ (32 ∷ behind_clock e)
  line_is (acted clock n k a) = refl
  line_is (passed clock d) = refl

  number_apart : (n : ℕ) (rest left : List ℕ) → decimal n ++ rest ≡ 116 ∷ left → ⊥
  number_apart n rest left e =
      let begins = decimal_begins n in
      let first : begins.first ≡ 116 = head_is (sym (ap (λ (l : List ℕ). l ++ rest) begins.is) ∙ e) in
      omega (arith, begins.high, first)

  same_event : (d e : Event) → HasPlainEvent d → HasPlainEvent e → behind_clock d ≡ behind_clock e → (event_point m d).event ≡ (event_point m e).event
  same_event (acted clock n k a) (acted now l j b) has has' same =
      let one = cut_once 32 (decimal n) (decimal k ++ (32 ∷ (label m a ++ newline))) (decimal l) (decimal j ++ (32 ∷ (label m b ++ newline))) (decimal_lacks 32 n (omega arith)) (decimal_lacks 32 l (omega arith)) same in
      let two = cut_once 32 (decimal k) (label m a ++ newline) (decimal j) (label m b ++ newline) (decimal_lacks 32 k (omega arith)) (decimal_lacks 32 j (omega arith)) one.same_rest in
      same_label a b has has' two.same_rest
  same_event (acted clock n k a) (passed now d) has has' same =
      absurd (number_apart n (32 ∷ (decimal k ++ (32 ∷ (label m a ++ newline)))) (codes "ime " ++ (decimal d ++ newline)) same)
  same_event (passed now d) (acted clock n k a) has has' same =
      absurd (number_apart n (32 ∷ (decimal k ++ (32 ∷ (label m a ++ newline)))) (codes "ime " ++ (decimal d ++ newline)) (sym same))
  same_event (passed now d) (passed then f) has has' same = refl

point_is : (p q : Point) → p.clock ≡ q.clock → p.event ≡ q.event → p ≡ q
point_is p q clocks events =
    ap (λ (n : ℕ). let x : Point = record { clock = n; event = p.event } in x) clocks ∙ ap (λ (h : Happening). let x : Point = record { clock = q.clock; event = h } in x) events

pub one_point : OneLineOnePoint
one_point m d e plain has has' fits fits' same =
    let now = (event_point m d).clock in
    let then = (event_point m e).clock in
    let cut = cut_once 32 (decimal now) (behind_clock m plain d) (decimal then) (behind_clock m plain e) (decimal_lacks 32 now (omega arith)) (decimal_lacks 32 then (omega arith))
    (sym (line_is m plain d) ∙ same ∙ line_is m plain e) in
    point_is (event_point m d) (event_point m e) (decimal_once now then (omega (arith, fits)) (omega (arith, fits')) cut.same_line) (same_event m plain d e has has' cut.same_rest)

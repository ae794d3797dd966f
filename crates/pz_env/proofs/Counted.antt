-- What is counted and what is left stay the whole.
use Rattle.std.proofs.Common.{◌≡◌, refl, sym, ap, ap₂, subst, ◌∙◌, ◌-◌, ℕ, zero, suc, ◌+◌, ◌<◌, Bool, true, false, ◌||◌, List, [], ◌∷◌, ◌++◌, length, Option, Some, None, if◌then◌else◌, arith}
use Rattle.std.specs.Prelude.{nat_le, nat_lt}
use Rattle.std.specs.Option.{option_map_or}
use Rattle.std.proofs.lemmas.Bool.{leb-true, le-leb, ltb-true, lt-ltb}
use Rattle.pz_syntax.specs.declared.clusters.Instance.{Instance}
use Rattle.pz_syntax.specs.Classes.{DeclTree, data_class, process_class, cluster_class, system, ModelTree}
use Rattle.pz_classes.specs.pz_classes_rules.Kinds.{is_process}
use Rattle.pz_classes.specs.pz_classes_rules.Instances.{instances, channels, instance_class}
use Rattle.pz_classes.specs.pz_classes_rules.SizeRules.{Totals, nothing, plus, all_of, one_of, expanded}
use Rattle.pz_env.specs.declared.room.Held.{Held}
use Rattle.pz_env.specs.declared.room.Counting.{Counting}
use Rattle.pz_env.specs.devices.Counting.{is_above, is_over, size_of, held_by, held, sum_of, count_in, steps, steps_of, opened, IsLeft}

abbrev mk : ℕ → ℕ → ℕ → Totals
mk p k h = record { processes = p; clusters = k; channels = h }

same_totals : (a b : Totals) → a.processes ≡ b.processes → a.clusters ≡ b.clusters → a.channels ≡ b.channels → a ≡ b
same_totals a b p q r =
    ap (λ (x : ℕ). mk x a.clusters a.channels) p ∙ ap (λ (x : ℕ). mk b.processes x a.channels) q ∙ ap (λ (x : ℕ). mk b.processes b.clusters x) r

plus_nothing : (a : Totals) → plus a nothing ≡ a
plus_nothing a = same_totals (plus a nothing) a (omega arith) (omega arith) (omega arith)

nothing_plus : (a : Totals) → plus nothing a ≡ a
nothing_plus a = same_totals (plus nothing a) a (omega arith) (omega arith) (omega arith)

plus_assoc : (a b c : Totals) → plus (plus a b) c ≡ plus a (plus b c)
plus_assoc a b c = same_totals (plus (plus a b) c) (plus a (plus b c)) (omega arith) (omega arith) (omega arith)

module _ (m : ModelTree) where
  sum_both : (xs ys : List Held) → sum_of m (xs ++ ys) ≡ plus (sum_of m xs) (sum_of m ys)
  sum_both [] ys = sym (nothing_plus (sum_of m ys))
  sum_both (x ∷ xs) ys =
      let rest : sum_of m (xs ++ ys) ≡ plus (sum_of m xs) (sum_of m ys) = sum_both xs ys in
      ap (plus (expanded m x.levels x.class)) rest ∙ sym (plus_assoc (expanded m x.levels x.class) (sum_of m xs) (sum_of m ys))

  sum_held : (levels : ℕ) (is : List Instance) → sum_of m (held m levels is) ≡ all_of m (expanded m levels) is
  sum_held levels [] = refl
  sum_held levels (i ∷ is) =
      sum_both (held_by m levels i) (held m levels is)
      ∙ ap (plus (sum_of m (held_by m levels i))) (sum_held levels is)
      ∙ ap (λ (t : Totals). plus t (all_of m (expanded m levels) is)) (one (instance_class m i.class.name))
    where
      one : (o : Option ℕ) → sum_of m (option_map_or (λ c. record { class = c; levels = levels } ∷ []) o []) ≡ option_map_or (expanded m levels) o nothing
      one None = refl
      one (Some c) = plus_nothing (expanded m levels c)

  steps_both : (xs ys : List Held) → steps_of m (xs ++ ys) ≡ steps_of m xs + steps_of m ys
  steps_both [] ys = omega arith
  steps_both (x ∷ xs) ys =
      let rest : steps_of m (xs ++ ys) ≡ steps_of m xs + steps_of m ys = steps_both xs ys in
      omega (arith, rest)

  steps_held : (levels : ℕ) (is : List Instance) → steps_of m (held m levels is) ≡ count_in m (steps m levels) is
  steps_held levels [] = refl
  steps_held levels (i ∷ is) =
      let parts = steps_both (held_by m levels i) (held m levels is) in
      let rest = steps_held levels is in
      let first = one (instance_class m i.class.name) in
      parts ∙ ap (λ (k : ℕ). steps_of m (held_by m levels i) + k) rest ∙ ap (λ (k : ℕ). k + count_in m (steps m levels) is) first
    where
      one : (o : Option ℕ) → steps_of m (option_map_or (λ c. record { class = c; levels = levels } ∷ []) o []) ≡ option_map_or (steps m levels) o 0
      one None = refl
      one (Some c) = omega arith

  abbrev pub own : DeclTree → ℕ
  own d = if is_process d then 1 else 0

  one_processes : (f : ℕ → Totals) (d : DeclTree) → (one_of m f d).processes ≡ own d + (all_of m f (instances d)).processes
  one_processes f (data_class c) = omega arith
  one_processes f (process_class c) = omega arith
  one_processes f (cluster_class c) = omega arith
  one_processes f (system s) = omega arith

  one_channels : (f : ℕ → Totals) (d : DeclTree) → (one_of m f d).channels ≡ length (channels d) + (all_of m f (instances d)).channels
  one_channels f (data_class c) = omega arith
  one_channels f (process_class c) = omega arith
  one_channels f (cluster_class c) = omega arith
  one_channels f (system s) = omega arith

  -- one of what is declared is counted, what stands in it is left
  pub counted : (levels : ℕ) (d : DeclTree) (rest : List Held) (old new : Counting) (whole : Totals)
      → old.processes + ((one_of m (expanded m levels) d).processes + (sum_of m rest).processes) ≡ whole.processes
      → old.channels + ((one_of m (expanded m levels) d).channels + (sum_of m rest).channels) ≡ whole.channels
      → new.left.items ≡ rest ++ held m levels (instances d)
      → new.processes ≡ old.processes + own d
      → new.channels ≡ old.channels + length (channels d)
      → IsLeft m whole new
  counted levels d rest old new whole p c left np nc =
      let sum : sum_of m new.left.items ≡ plus (sum_of m rest) (all_of m (expanded m levels) (instances d)) =
      ap (sum_of m) left ∙ sum_both rest (held m levels (instances d)) ∙ ap (plus (sum_of m rest)) (sum_held levels (instances d)) in
      let sp : (sum_of m new.left.items).processes ≡ (sum_of m rest).processes + (all_of m (expanded m levels) (instances d)).processes = ap (λ t. t.processes) sum in
      let sc : (sum_of m new.left.items).channels ≡ (sum_of m rest).channels + (all_of m (expanded m levels) (instances d)).channels = ap (λ t. t.channels) sum in
      let op = one_processes (expanded m levels) d in
      let oc = one_channels (expanded m levels) d in
      record { processes = omega (arith, p, sp, op, np); channels = omega (arith, c, sc, oc, nc) }

  popped : (h : Held) (rest : List Held) → sum_of m (rest ++ h ∷ []) ≡ plus (sum_of m rest) (plus (expanded m h.levels h.class) nothing)
  popped h rest = sum_both rest (h ∷ [])

  steps_popped : (h : Held) (rest : List Held) → steps_of m (rest ++ h ∷ []) ≡ steps_of m rest + (steps m h.levels h.class + 0)
  steps_popped h rest = steps_both rest (h ∷ [])

  opens : (levels class : ℕ) (d : DeclTree) → opened m (record { class = class; levels = levels }) ≡ Some d
      → (expanded m levels class ≡ one_of m (expanded m (levels - 1)) d) × (steps m levels class ≡ suc (count_in m (steps m (levels - 1)) (instances d)))
  opens zero class d is = absurd cc
  opens (suc levels) class d is =
      let below : levels ≡ suc levels - 1 = omega arith in (
        ap (λ o. option_map_or (one_of m (expanded m levels)) o nothing) is ∙ ap (λ (l : ℕ). one_of m (expanded m l) d) below,
        ap (λ o. suc (option_map_or (λ x. count_in m (steps m levels) (instances x)) o 0)) is ∙ ap (λ (l : ℕ). suc (count_in m (steps m l) (instances d))) below,
      )

  closes : (levels class : ℕ) → opened m (record { class = class; levels = levels }) ≡ None → expanded m levels class ≡ nothing
  closes zero class is = refl
  closes (suc levels) class is = ap (λ o. option_map_or (one_of m (expanded m levels)) o nothing) is

  first : (levels : ℕ) (d : DeclTree) (new : Counting) → new.left.items ≡ held m levels (instances d) → new.processes ≡ 0 + own d → new.channels ≡ 0 + length (channels d)
      → IsLeft m (one_of m (expanded m levels) d) new
  first levels d new left np nc =
      let sum : sum_of m new.left.items ≡ all_of m (expanded m levels) (instances d) = ap (sum_of m) left ∙ sum_held levels (instances d) in
      let sp : (sum_of m new.left.items).processes ≡ (all_of m (expanded m levels) (instances d)).processes = ap (λ t. t.processes) sum in
      let sc : (sum_of m new.left.items).channels ≡ (all_of m (expanded m levels) (instances d)).channels = ap (λ t. t.channels) sum in
      let op = one_processes (expanded m levels) d in
      let oc = one_channels (expanded m levels) d in
      record { processes = omega (arith, sp, op, np); channels = omega (arith, sc, oc, nc) }

  -- the first one is counted
  pub begun : (levels : ℕ) (d : DeclTree) (start : List Held) (new : Counting) → levels ≡ length m.decls → start ≡ [] → new.left.items ≡ start ++ held m levels (instances d)
      → new.processes ≡ 0 + own d → new.channels ≡ 0 + length (channels d) → IsLeft m (size_of m d) new
  begun levels d start new deep empty left np nc = subst (λ (l : ℕ). IsLeft m (one_of m (expanded m l) d) new) deep (first levels d new (left ∙ ap (λ (hs : List Held). hs ++ held m levels (instances d)) empty) np nc)

  -- one that was left is counted
  pub goes_on : (h : Held) (rest : List Held) (d : DeclTree) (old new : Counting) (whole : Totals) → IsLeft m whole old → old.left.items ≡ rest ++ h ∷ [] → opened m h ≡ Some d
      → new.left.items ≡ rest ++ held m (h.levels - 1) (instances d)
      → new.processes ≡ old.processes + own d
      → new.channels ≡ old.channels + length (channels d)
      → IsLeft m whole new
  goes_on h rest d old new whole was is at left np nc =
      let size = (opens h.levels h.class d at).0 in
      let sum : sum_of m old.left.items ≡ plus (sum_of m rest) (plus (expanded m h.levels h.class) nothing) = ap (sum_of m) is ∙ popped h rest in
      let sp : (sum_of m old.left.items).processes ≡ (sum_of m rest).processes + ((expanded m h.levels h.class).processes + 0) = ap (λ t. t.processes) sum in
      let sc : (sum_of m old.left.items).channels ≡ (sum_of m rest).channels + ((expanded m h.levels h.class).channels + 0) = ap (λ t. t.channels) sum in
      let ep : (expanded m h.levels h.class).processes ≡ (one_of m (expanded m (h.levels - 1)) d).processes = ap (λ t. t.processes) size in
      let ec : (expanded m h.levels h.class).channels ≡ (one_of m (expanded m (h.levels - 1)) d).channels = ap (λ t. t.channels) size in
      let wp = was.processes in
      let wc = was.channels in
      counted (h.levels - 1) d rest old new whole (omega (arith, wp, sp, ep)) (omega (arith, wc, sc, ec)) left np nc

  pub fewer : (h : Held) (rest old new : List Held) (d : DeclTree) → old ≡ rest ++ h ∷ [] → opened m h ≡ Some d → new ≡ rest ++ held m (h.levels - 1) (instances d) → steps_of m new < steps_of m old
  fewer h rest old new d is at left =
      let before : steps_of m old ≡ steps_of m rest + (steps m h.levels h.class + 0) = ap (steps_of m) is ∙ steps_popped h rest in
      let after : steps_of m new ≡ steps_of m rest + count_in m (steps m (h.levels - 1)) (instances d) =
      ap (steps_of m) left ∙ steps_both rest (held m (h.levels - 1) (instances d)) ∙ ap (λ (k : ℕ). steps_of m rest + k) (steps_held (h.levels - 1) (instances d)) in
      let one = (opens h.levels h.class d at).1 in
      omega (arith, before, after, one)

  -- one that was left is nothing
  pub passed : (h : Held) (rest : List Held) (old new : Counting) (whole : Totals) → IsLeft m whole old → old.left.items ≡ rest ++ h ∷ [] → opened m h ≡ None
      → new.left.items ≡ rest → new.processes ≡ old.processes → new.channels ≡ old.channels → IsLeft m whole new
  passed h rest old new whole was is at left np nc =
      let size = closes h.levels h.class at in
      let sum : sum_of m old.left.items ≡ plus (sum_of m rest) (plus (expanded m h.levels h.class) nothing) = ap (sum_of m) is ∙ popped h rest in
      let sp : (sum_of m old.left.items).processes ≡ (sum_of m rest).processes + ((expanded m h.levels h.class).processes + 0) = ap (λ t. t.processes) sum in
      let sc : (sum_of m old.left.items).channels ≡ (sum_of m rest).channels + ((expanded m h.levels h.class).channels + 0) = ap (λ t. t.channels) sum in
      let ep : (expanded m h.levels h.class).processes ≡ 0 = ap (λ t. t.processes) size in
      let ec : (expanded m h.levels h.class).channels ≡ 0 = ap (λ t. t.channels) size in
      let np2 : (sum_of m new.left.items).processes ≡ (sum_of m rest).processes = ap (λ l. (sum_of m l).processes) left in
      let nc2 : (sum_of m new.left.items).channels ≡ (sum_of m rest).channels = ap (λ l. (sum_of m l).channels) left in
      let wp = was.processes in
      let wc = was.channels in
      record { processes = omega (arith, wp, sp, ep, np, np2); channels = omega (arith, wc, sc, ec, nc, nc2) }

  some_steps : (levels class : ℕ) → 0 < steps m levels class
  some_steps zero class = omega arith
  some_steps (suc levels) class = omega arith

  pub fewer_left : (h : Held) (rest old : List Held) → old ≡ rest ++ h ∷ [] → steps_of m rest < steps_of m old
  fewer_left h rest old is =
      let before : steps_of m old ≡ steps_of m rest + (steps m h.levels h.class + 0) = ap (steps_of m) is ∙ steps_popped h rest in
      let one = some_steps h.levels h.class in
      omega (arith, before, one)

or_first : (a b : Bool) → a ≡ true → a || b ≡ true
or_first a b e = ap (λ (x : Bool). x || b) e

or_second : (a b : Bool) → b ≡ true → a || b ≡ true
or_second true b e = refl
or_second false b e = e

-- what is over its limits so far is so in the end
pub stays_over : (m : ModelTree) (c : Counting) (whole : Totals) → IsLeft m whole c → is_over c ≡ true → is_above whole ≡ true
stays_over m c whole was over = grow (nat_le 10000 c.processes) refl over
  where
    grow : (b : Bool) → nat_le 10000 c.processes ≡ b → (b || nat_lt 900000 c.channels) ≡ true → is_above whole ≡ true
    grow true is h =
        let low = leb-true 10000 c.processes is in
        let p = was.processes in
        or_first (nat_le 10000 whole.processes) (nat_lt 900000 whole.channels) (le-leb 10000 whole.processes (omega (arith, low, p)))
    grow false is h =
        let low = ltb-true 900000 c.channels h in
        let p = was.channels in
        or_second (nat_le 10000 whole.processes) (nat_lt 900000 whole.channels) (lt-ltb 900000 whole.channels (omega (arith, low, p)))

-- where nothing is left all has been counted
pub in_all : (m : ModelTree) (c : Counting) (whole : Totals) → IsLeft m whole c → c.left.items ≡ [] → is_over c ≡ is_above whole
in_all m c whole was none =
    let p : c.processes + (sum_of m c.left.items).processes ≡ whole.processes = was.processes in
    let q : c.channels + (sum_of m c.left.items).channels ≡ whole.channels = was.channels in
    let zp : (sum_of m c.left.items).processes ≡ 0 = ap (λ l. (sum_of m l).processes) none in
    let zc : (sum_of m c.left.items).channels ≡ 0 = ap (λ l. (sum_of m l).channels) none in
    let sp : c.processes ≡ whole.processes = omega (arith, p, zp) in
    let sc : c.channels ≡ whole.channels = omega (arith, q, zc) in
    ap₂ (λ (a b : ℕ). nat_le 10000 a || nat_lt 900000 b) sp sc

-- Plans, one step further.
use Rattle.std.proofs.Common.{◌≡◌, refl, sym, ap, ◌∙◌, ℕ, suc, ◌<◌, ◌≤◌, ◌^◌, List, [], ◌∷◌, ◌++◌, append_assoc, append-nil, map, take, take-suc, drop, length, get_or, Option, Some, None, slice_get, arith}
use Rattle.std.proofs.Math.Path.{fun_ext}
use Rattle.std.specs.Option.{option_or, option_and_then, option_map, option_map_or}
use Rattle.std.specs.List.{flat_map}
use Rattle.std.proofs.lemmas.List.{drop_all, map-append}
use Rattle.std.proofs.lemmas.Option.{slice_get-map}
use Rattle.pz_bind_rules.specs.pz_syntax.declared.clusters.Instance.{Instance}
use Rattle.pz_bind_rules.specs.pz_syntax.declared.clusters.Channel.{Channel as Written}
use Rattle.pz_bind_rules.specs.pz_syntax.declared.clusters.ChannelEnd.{ChannelEnd}
use Rattle.pz_bind_rules.specs.pz_syntax.declared.clusters.Decl.{Decl}
use Rattle.pz_bind_rules.specs.pz_syntax.Classes.{DeclTree, ModelTree}
use Rattle.pz_bind_rules.specs.pz_syntax.ClassView.{decl_view}
use Rattle.pz_bind_rules.specs.pz_classes_rules.Instances.{instances}
use Rattle.pz_bind_rules.specs.pz_classes_rules.Numbers.{declaration}
use Rattle.pz_bind_rules.specs.pz_classes_rules.SoundNumbers.{NumbersFit}
use Rattle.pz_bind_levels.specs.declared.plan.LevelPart.{LevelPart}
use Rattle.pz_bind_levels.specs.Layouts.{Layout}
use Rattle.pz_bind_rules.specs.Nest.{instances_in, class_of}
use Rattle.pz_bind_rules.specs.devices.Layouts.{part_of, port_number, port_of, linked_by, link_of, links_from, class_layout, layouts_from}
use Rattle.pz_bind.proofs.Gets.{one_more}
use Rattle.pz_bind_rules.proofs.Linked.{linked_append, or_assoc}

pub or_none : {A : Type 0} (o : Option A) → option_or o None ≡ o
or_none None = refl
or_none (Some x) = refl

-- of a list that is mapped, one element more
pub map_step : {A B : Type 0} (f : A → B) (xs : List A) (x : A) (at next : ℕ) (old new : List B) (y : B) → at < length xs → x ≡ get_or xs at x → next ≡ suc at → new ≡ old ++ y ∷ [] → y ≡ f x → old ≡ map f (take at xs) → new ≡ map f (take next xs)
map_step f xs x at next old new y within here after pushed is before =
    let grown : take next xs ≡ take at xs ++ x ∷ [] = ap (λ n. take n xs) after ∙ (take-suc xs at x within ∙ ap (λ z. take at xs ++ z ∷ []) (sym here)) in
    pushed ∙ (ap (λ z. old ++ z ∷ []) is ∙ (ap (λ zs. zs ++ f x ∷ []) before ∙ (sym (map-append f (take at xs) (x ∷ [])) ∙ ap (map f) (sym grown))))

module _ (m : ModelTree) where
  module _ (xs : List Instance) (i p : ℕ) where
    -- one end more is in its channel
    pub end_step : (k : ℕ) (es : List ChannelEnd) (e : ChannelEnd) (at next : ℕ) (now later whole : Option ℕ) → at < length es → e ≡ get_or es at e → next ≡ suc at
        → later ≡ option_or now (linked_by (link_of m xs k e) i p) → option_or now (linked_by (flat_map (link_of m xs k) (drop at es)) i p) ≡ whole
        → option_or later (linked_by (flat_map (link_of m xs k) (drop next es)) i p) ≡ whole
    end_step k es e at next now later whole within here after is before =
        let rest : List ChannelEnd = drop next es in
        ap (λ o. option_or o (linked_by (flat_map (link_of m xs k) rest) i p)) is
        ∙ (sym (or_assoc now (linked_by (link_of m xs k e) i p) (linked_by (flat_map (link_of m xs k) rest) i p))
        ∙ (ap (option_or now) (sym (linked_append (link_of m xs k e) (flat_map (link_of m xs k) rest) i p))
        ∙ (ap (λ (fs : List ChannelEnd). option_or now (linked_by (flat_map (link_of m xs k) fs) i p)) (sym (one_more es e at next within here after)) ∙ before)))

    pub ends_done : (k : ℕ) (es : List ChannelEnd) (at : ℕ) (now whole : Option ℕ) → length es ≤ at → option_or now (linked_by (flat_map (link_of m xs k) (drop at es)) i p) ≡ whole → now ≡ whole
    ends_done k es at now whole past before =
        sym (or_none now) ∙ (ap (λ (fs : List ChannelEnd). option_or now (linked_by (flat_map (link_of m xs k) fs) i p)) (sym (drop_all at es past)) ∙ before)

    -- the ends of one channel more
    pub channel_step : (hs : List Written) (h : Written) (at next : ℕ) (es : List ChannelEnd) (now later whole : Option ℕ) → at < length hs → h ≡ get_or hs at h → next ≡ suc at → es ≡ h.ends
        → later ≡ option_or now (linked_by (flat_map (link_of m xs at) es) i p) → option_or now (linked_by (links_from m xs at (drop at hs)) i p) ≡ whole
        → option_or later (linked_by (links_from m xs next (drop next hs)) i p) ≡ whole
    channel_step hs h at next es now later whole within here after ends is before =
        let rest : List Written = drop next hs in
        let its : Option ℕ = linked_by (flat_map (link_of m xs at) h.ends) i p in
        let others : Option ℕ = linked_by (links_from m xs (suc at) rest) i p in
        let later_is : later ≡ option_or now its = is ∙ ap (λ (fs : List ChannelEnd). option_or now (linked_by (flat_map (link_of m xs at) fs) i p)) ends in
        ap (λ n. option_or later (linked_by (links_from m xs n rest) i p)) after
        ∙ (ap (λ o. option_or o others) later_is
        ∙ (sym (or_assoc now its others)
        ∙ (ap (option_or now) (sym (linked_append (flat_map (link_of m xs at) h.ends) (links_from m xs (suc at) rest) i p))
        ∙ (ap (λ (gs : List Written). option_or now (linked_by (links_from m xs at gs) i p)) (sym (one_more hs h at next within here after)) ∙ before))))

    pub channels_done : (hs : List Written) (at : ℕ) (now whole : Option ℕ) → length hs ≤ at → option_or now (linked_by (links_from m xs at (drop at hs)) i p) ≡ whole → now ≡ whole
    channels_done hs at now whole past before =
        sym (or_none now) ∙ (ap (λ (gs : List Written). option_or now (linked_by (links_from m xs at gs) i p)) (sym (drop_all at hs past)) ∙ before)

  -- the port of an instance of which this is kept
  pub port_step : (kept : ModelTree) (xs : List Instance) (ps : List LevelPart) (part : LevelPart) (i : ℕ) (name : List ℕ) (r : Option ℕ) → ps ≡ map (part_of m) xs → kept ≡ m → slice_get ps i ≡ Some part
      → r ≡ port_number kept part.class name → r ≡ port_of m xs i name
  port_step kept xs ps part i name r parts same here is =
      let mapped : slice_get ps i ≡ option_map (part_of m) (slice_get xs i) = ap (λ (qs : List LevelPart). slice_get qs i) parts ∙ slice_get-map (part_of m) xs i in
      is ∙ (ap (λ (t : ModelTree). port_number t part.class name) same ∙ (ap (option_and_then its_port) (sym here ∙ mapped) ∙ by_instance (slice_get xs i)))
    where
      its_port : LevelPart → Option ℕ
      its_port q = port_number m q.class name

      by_instance : (o : Option Instance) → option_and_then its_port (option_map (part_of m) o) ≡ option_and_then (λ x. port_number m (class_of m x) name) o
      by_instance None = refl
      by_instance (Some x) = refl

  -- 32 bits number the instances in a class
  pub instances_fit : NumbersFit m → (c : ℕ) → length (instances_in m c) < 2 ^ 32
  instances_fit fit c = by_declaration (declaration m c) refl
    where
      by_declaration : (o : Option DeclTree) → declaration m c ≡ o → length (option_map_or instances o []) < 2 ^ 32
      by_declaration None is = omega arith
      by_declaration (Some d) is = fit.instances c d is

  pub plans_step : (ds : List Decl) (d : Decl) (at next : ℕ) (old new whole : List Layout) → at < length ds → d ≡ get_or ds at d → next ≡ suc at → new ≡ old ++ class_layout m (suc at) ∷ []
      → old ++ layouts_from m (suc at) (map decl_view (drop at ds)) ≡ whole → new ++ layouts_from m (suc next) (map decl_view (drop next ds)) ≡ whole
  plans_step ds d at next old new whole within here after pushed before =
      let rest : List Layout = layouts_from m (suc (suc at)) (map decl_view (drop next ds)) in
      ap (λ n. new ++ layouts_from m (suc n) (map decl_view (drop next ds))) after
      ∙ (ap (λ (ls : List Layout). ls ++ rest) pushed
      ∙ (append_assoc old (class_layout m (suc at) ∷ []) rest
      ∙ (ap (λ (es : List Decl). old ++ layouts_from m (suc at) (map decl_view es)) (sym (one_more ds d at next within here after)) ∙ before)))

  pub plans_done : (ds : List Decl) (at : ℕ) (now whole : List Layout) → length ds ≤ at → now ++ layouts_from m (suc at) (map decl_view (drop at ds)) ≡ whole → now ≡ whole
  plans_done ds at now whole past before =
      sym (append-nil now) ∙ (ap (λ (es : List Decl). now ++ layouts_from m (suc at) (map decl_view es)) (sym (drop_all at ds past)) ∙ before)

-- layouts are equal where they say the same
pub same_layout : (l k : Layout) → l.parts ≡ k.parts → l.outer ≡ k.outer → ((i p : ℕ) → l.linked i p ≡ k.linked i p) → l ≡ k
same_layout l k parts outer links =
    let linked : l.linked ≡ k.linked = fun_ext (λ i. fun_ext (λ p. links i p)) in
    ap (λ ps. record { parts = ps; outer = l.outer; linked = l.linked }) parts
    ∙ (ap (λ os. record { parts = k.parts; outer = os; linked = l.linked }) outer
    ∙ ap (λ f. record { parts = k.parts; outer = k.outer; linked = f }) linked)

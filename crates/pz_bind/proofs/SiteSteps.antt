-- What is known of the levels, one further, and of what stands in them.
use Rattle.std.proofs.Common.{◌≡◌, refl, sym, ap, ◌∙◌, subst, ℕ, zero, suc, ◌<◌, false, List, [], ◌∷◌, ◌++◌, codes, map, take, take-suc, length, get_or, Option, Some, None, slice_get, if◌then◌else◌, arith}
use Rattle.std.proofs.Math.Path.{fun_ext}
use Rattle.std.specs.Fmt.{decimal}
use Rattle.std.specs.Option.{option_map_or, unwrap_or}
use Rattle.std.proofs.lemmas.List.{map-append}
use Rattle.std.proofs.lemmas.Option.{slice_get_within, slice_get-get_or, get_or_from_slice_get}
use Rattle.pz_bind_rules.specs.pz_syntax.declared.clusters.Instance.{Instance}
use Rattle.pz_bind_rules.specs.pz_syntax.Classes.{ModelTree}
use Rattle.pz_bind_rules.specs.pz_value.declared.value.Value.{Value}
use Rattle.pz_bind_rules.specs.pz_value.declared.value.Value.TheVariants.{Nil}
use Rattle.pz_bind_rules.specs.pz_classes_rules.Members.{variables, spelled}
use Rattle.pz_bind_rules.specs.pz_classes_rules.ClassNames.{class_id}
use Rattle.pz_bind_levels.specs.declared.expansion.Standing.{Standing}
use Rattle.pz_bind_levels.specs.declared.expansion.Level.{Level}
use Rattle.pz_bind_levels.specs.declared.expansion.Process.{Process}
use Rattle.pz_bind_levels.specs.declared.expansion.Wire.{Wire}
use Rattle.pz_bind_levels.specs.Places.{Address}
use Rattle.pz_bind_levels.specs.Wires.{Channel}
use Rattle.pz_bind_levels.proofs.Each.{there, pushed, partner}
use Rattle.pz_bind_rules.specs.Nest.{instances_in, class_at, instance_at, levels, processes}
use Rattle.pz_bind_rules.specs.Names.{path, wire_name}
use Rattle.pz_bind_rules.specs.Values.{given_value, parameter_at, values_at}
use Rattle.pz_bind_rules.specs.Wires.{wires}
use Rattle.pz_bind.specs.devices.Nets.{node_at}
use Rattle.pz_bind.specs.declared.bindings.Bindings.{Bindings}
use Rattle.pz_bind.specs.declared.sites.Site.{Site}
use Rattle.pz_bind.specs.devices.Bindings.{value_in}
use Rattle.pz_bind.specs.devices.Sites.{IsSite, IsSystem, below, IsPlaced, MayStand, StandsIn, at_top, in_level, LevelAt, the_system, a_cluster, IsLevelAt, AreLevels, AreSites}
use Rattle.pz_bind.specs.devices.Processes.{AreProcesses, IsProcessAt, IsWireAt, AreWires}

module _ (m : ModelTree) where
  -- the path of an instance, by that of its level
  path_below : (up : Address) (i : ℕ) (x : Instance) (site : Site) → IsSite m up site → instance_at m up i ≡ Some x → below site x.name.name ≡ path m (i ∷ up)
  path_below [] i x site is at =
      ap (λ b. if b then x.name.name else site.path ++ (codes "." ++ x.name.name)) is.top
      ∙ ap (λ (o : Option Instance). option_map_or (λ (y : Instance). y.name.name) o []) (sym at)
  path_below (j ∷ up) i x site is at =
      ap (λ b. if b then x.name.name else site.path ++ (codes "." ++ x.name.name)) is.top
      ∙ (ap (λ (p : List ℕ). p ++ (codes "." ++ x.name.name)) is.path_is
      ∙ ap (λ (o : Option Instance). path m (j ∷ up) ++ (codes "." ++ option_map_or (λ (y : Instance). y.name.name) o [])) (sym at))

  -- what an instance is given, by what its level is given
  bound_below : (up : Address) (i : ℕ) (x : Instance) (site : Site) (b : Bindings) → IsSite m up site → instance_at m up i ≡ Some x → ((q : List ℕ) → value_in b q ≡ given_value (value_in site.bindings) (unwrap_or x.given []) q)
      → (q : List ℕ) → value_in b q ≡ parameter_at m (i ∷ up) q
  bound_below up i x site b is at given q =
      let outer : value_in site.bindings ≡ parameter_at m up = fun_ext is.bound in
      given q
      ∙ (ap (λ (f : List ℕ → Value). given_value f (unwrap_or x.given []) q) outer
      ∙ ap (λ (o : Option Instance). option_map_or (λ (y : Instance). given_value (parameter_at m up) (unwrap_or y.given []) q) o Nil) (sym at))

  stood : (up : Address) (i : ℕ) (x : Instance) (site : Site) → IsSite m up site → slice_get (instances_in m site.class) i ≡ Some x → instance_at m up i ≡ Some x
  stood up i x site is at = ap (λ c. slice_get (instances_in m c) i) (sym is.class) ∙ at

  -- ---- a level in a level

  pub system_site : (class : ℕ) (s : Site) (sites : List Site) (place : Address) → IsSystem class s → StandsIn m sites None place → class ≡ class_at m place → IsSite m place s
  system_site class s sites place is stands at = by_stand None place stands refl at
    where
      by_stand : (o : Option Standing) (q : Address) → StandsIn m sites o q → o ≡ None → class ≡ class_at m q → IsSite m q s
      by_stand _ _ at_top standing class_is = record { class = is.class_is ∙ class_is; top = is.top; path_is = is.path_is; bound = is.bound }
      by_stand _ _ (in_level t up site here known) standing class_is = cc

  -- what is known of an instance of a level that is known
  pub record Known (sites : List Site) (s : Standing) (place : Address) (site : Site) (x : Instance) : Type 0 where
    pub up : Address
    pub place_is : place ≡ s.part ∷ up
    pub known : IsSite m up site
    pub instance : instance_at m up s.part ≡ Some x

  pub known_at : (sites : List Site) (s : Standing) (place : Address) (site : Site) (x : Instance) → slice_get sites s.level ≡ Some site → slice_get (instances_in m site.class) s.part ≡ Some x → StandsIn m sites (Some s) place → Known sites s place site x
  known_at sites s place site x at instance stands = by_stand (Some s) place stands refl
    where
      by_stand : (o : Option Standing) (q : Address) → StandsIn m sites o q → o ≡ Some s → Known sites s q site x
      by_stand _ _ at_top standing = cc
      by_stand _ _ (in_level t up other here known) standing =
          let same : t ≡ s = cc in
          let both : Some other ≡ Some site = sym here ∙ (ap (λ (z : Standing). slice_get sites z.level) same ∙ at) in
          let one : other ≡ site = cc in
          let is : IsSite m up site = subst (IsSite m up) one known in
          record { up = up; place_is = ap (λ (z : Standing). z.part ∷ up) same; known = is; instance = stood up s.part x site is instance }

  pub cluster_site : (sites : List Site) (s : Standing) (place : Address) (site : Site) (x : Instance) (class : ℕ) (p : List ℕ) (b : Bindings) → Known sites s place site x → class ≡ class_at m place → p ≡ below site x.name.name
      → ((q : List ℕ) → value_in b q ≡ given_value (value_in site.bindings) (unwrap_or x.given []) q) → IsSite m place (record { class = class; is_system = false; path = p; bindings = b })
  cluster_site sites s place site x class p b k class_is path_is given =
      subst (λ q. IsSite m q (record { class = class; is_system = false; path = p; bindings = b })) (sym k.place_is) (record {
        class = class_is ∙ ap (class_at m) k.place_is;
        top = refl;
        path_is = path_is ∙ path_below k.up s.part x site k.known k.instance;
        bound = bound_below k.up s.part x site b k.known k.instance given;
      })

  -- ---- all levels

  -- what is known of the first levels
  abbrev pub First : ℕ → List Site → Type 0
  First n sites = AreSites m (take n (levels m)) sites

  taken : (n k : ℕ) (place : Address) → k < n → slice_get (levels m) k ≡ Some place → slice_get (take n (levels m)) k ≡ Some place
  taken n k place below at = by_list (levels m) n k below at
    where
      by_list : (ps : List Address) (n k : ℕ) → k < n → slice_get ps k ≡ Some place → slice_get (take n ps) k ≡ Some place
      by_list [] n k before at = cc
      by_list (p ∷ ps) zero k before at = absurd (omega arith)
      by_list (p ∷ ps) (suc n) zero before at = at
      by_list (p ∷ ps) (suc n) (suc k) before at = by_list ps n k (omega arith) at

  pub may_stand : (n : ℕ) (sites : List Site) (o : Option Standing) (place : Address) → First n sites → LevelAt m n o place → MayStand m sites o
  may_stand n sites _ _ first the_system = tt
  may_stand n sites _ _ first (a_cluster s up below at part) =
      let site = partner (λ t q. IsSite m q t) sites (take n (levels m)) first s.level up (taken n s.level up below at) in
      record {
        within = slice_get_within sites s.level site.0 site.1;
        part = λ other there.
            let both : Some site.0 ≡ Some other = sym site.1 ∙ there in
            let same : site.0 ≡ other = cc in
            let class : class_at m up ≡ other.class = sym site.2.class ∙ ap (λ (t : Site). t.class) same in
            subst (λ c. s.part < length (instances_in m c)) class part;
      }

  pub stands_in : (n : ℕ) (sites : List Site) (o : Option Standing) (place : Address) → First n sites → LevelAt m n o place → StandsIn m sites o place
  stands_in n sites _ _ first the_system = at_top
  stands_in n sites _ _ first (a_cluster s up below at part) =
      let site = partner (λ t q. IsSite m q t) sites (take n (levels m)) first s.level up (taken n s.level up below at) in
      in_level s up site.0 site.1 site.2

  -- the level of this number, and its place
  pub level_place : (ls : List Level) (l : Level) (n : ℕ) → AreLevels m ls → n < length ls → l ≡ get_or ls n l → (place : Address) × (slice_get (levels m) n ≡ Some place) × IsLevelAt m n l place
  level_place ls l n are within here =
      let at : slice_get ls n ≡ Some l = slice_get-get_or ls n l within ∙ ap Some (sym here) in
      let found = there (levels m) n (let counts = are.counted in omega (arith, counts, within)) in
      (found.0, found.1, are.each n l found.0 at found.1)

  pub one_known : (n next : ℕ) (sites new : List Site) (site : Site) (place : Address) → First n sites → next ≡ suc n → slice_get (levels m) n ≡ Some place → IsSite m place site → new ≡ sites ++ site ∷ [] → First next new
  one_known n next sites new site place first after at is pushed_one =
      let grown : take next (levels m) ≡ take n (levels m) ++ place ∷ [] = ap (λ k. take k (levels m)) after ∙ (take-suc (levels m) n place (slice_get_within (levels m) n place at) ∙ ap (λ q. take n (levels m) ++ q ∷ []) (get_or_from_slice_get (levels m) n place place at)) in
      subst (λ (ss : List Site). AreSites m (take next (levels m)) ss) (sym pushed_one)
      (subst (λ (ps : List Address). AreSites m ps (sites ++ site ∷ [])) (sym grown) (pushed (λ t q. IsSite m q t) sites (take n (levels m)) site place first is))

  -- ---- processes

  pub process_placed : (sites : List Site) (p : Process) (place : Address) → AreSites m (levels m) sites → IsProcessAt m p place → IsPlaced m sites p.standing × StandsIn m sites (Some p.standing) place
  process_placed sites p place are is =
      let site = partner (λ t q. IsSite m q t) sites (levels m) are p.standing.level is.up is.level in (
        record {
          within = slice_get_within sites p.standing.level site.0 site.1;
          part = λ other here.
              let both : Some site.0 ≡ Some other = sym site.1 ∙ here in
              let same : site.0 ≡ other = cc in
              let class : class_at m is.up ≡ other.class = sym site.2.class ∙ ap (λ (t : Site). t.class) same in
              subst (λ c. p.standing.part < length (instances_in m c)) class is.part;
        },
        subst (StandsIn m sites (Some p.standing)) (sym is.place_is) (in_level p.standing is.up site.0 site.1 site.2),
      )

  pub node_is : (sites : List Site) (s : Standing) (place : Address) (site : Site) (x : Instance) (class : ℕ) (p : List ℕ) (b : Bindings) (vs : List Value) → Known sites s place site x → class ≡ class_at m place → p ≡ below site x.name.name
      → ((q : List ℕ) → value_in b q ≡ given_value (value_in site.bindings) (unwrap_or x.given []) q) → vs ≡ map (value_in b) (spelled (variables m class)) → record { path = p; class = class_id class; values = vs } ≡ node_at m place
  node_is sites s place site x class p b vs k class_is path_is given are =
      let path_at : p ≡ path m place = path_is ∙ (path_below k.up s.part x site k.known k.instance ∙ ap (path m) (sym k.place_is)) in
      let bound : value_in b ≡ parameter_at m place = fun_ext (bound_below k.up s.part x site b k.known k.instance given) ∙ ap (parameter_at m) (sym k.place_is) in
      let values : vs ≡ values_at m place = are ∙ (ap (λ (f : List ℕ → Value). map f (spelled (variables m class))) bound ∙ ap (λ c. map (parameter_at m place) (spelled (variables m c))) class_is) in
      ap (λ (q : List ℕ). record { path = q; class = class_id class; values = vs }) path_at
      ∙ (ap (λ c. record { path = path m place; class = class_id c; values = vs }) class_is
      ∙ ap (λ (ws : List Value). record { path = path m place; class = class_id (class_at m place); values = ws }) values)

  -- the process of this number, and its place
  pub process_place : (ps : List Process) (d : Process) (n : ℕ) → AreProcesses m ps → n < length ps → (place : Address) × (slice_get (processes m) n ≡ Some place) × IsProcessAt m (get_or ps n d) place
  process_place ps d n are within =
      let found = there (processes m) n (let counts = are.counted in omega (arith, counts, within)) in
      (found.0, found.1, are.each n (get_or ps n d) found.0 (slice_get-get_or ps n d within) found.1)

  pub wire_place : (ws : List Wire) (d : Wire) (n : ℕ) → AreWires m ws → n < length ws → (c : Channel) × (slice_get (wires m) n ≡ Some c) × IsWireAt m (get_or ws n d) c
  wire_place ws d n are within =
      let found = there (wires m) n (let counts = are.counted in omega (arith, counts, within)) in
      (found.0, found.1, are.each n (get_or ws n d) found.0 (slice_get-get_or ws n d within) found.1)

  pub wire_within : (sites : List Site) (w : Wire) (c : Channel) → AreSites m (levels m) sites → IsWireAt m w c → w.level < length sites
  wire_within sites w c are is =
      let site = partner (λ t q. IsSite m q t) sites (levels m) are w.level c.place is.level in
      slice_get_within sites w.level site.0 site.1

  pub wire_named : (sites : List Site) (w : Wire) (c : Channel) (name : List ℕ) → AreSites m (levels m) sites → IsWireAt m w c → ((site : Site) → slice_get sites w.level ≡ Some site → name ≡ site.path ++ (codes "#" ++ decimal (suc w.channel))) → name ≡ wire_name m c
  wire_named sites w c name are is named =
      let known = partner (λ t q. IsSite m q t) sites (levels m) are w.level c.place is.level in
      named known.0 known.1 ∙ (ap (λ (p : List ℕ). p ++ (codes "#" ++ decimal (suc w.channel))) known.2.path_is ∙ ap (λ n. path m c.place ++ (codes "#" ++ decimal (suc n))) is.number)

-- one more of a list that is mapped, where it is known by its place
pub mapped_step : {A B : Type 0} (f : A → B) (xs : List A) (x : A) (at next : ℕ) (old new : List B) (y : B) → slice_get xs at ≡ Some x → next ≡ suc at → new ≡ old ++ y ∷ [] → y ≡ f x → old ≡ map f (take at xs) → new ≡ map f (take next xs)
mapped_step f xs x at next old new y here after pushed_one is before =
    let grown : take next xs ≡ take at xs ++ x ∷ [] = ap (λ n. take n xs) after ∙ (take-suc xs at x (slice_get_within xs at x here) ∙ ap (λ z. take at xs ++ z ∷ []) (get_or_from_slice_get xs at x x here)) in
    pushed_one ∙ (ap (λ z. old ++ z ∷ []) is ∙ (ap (λ zs. zs ++ f x ∷ []) before ∙ (sym (map-append f (take at xs) (x ∷ [])) ∙ ap (map f) (sym grown))))

-- No transaction writes or names a number above its stamp (`low_writes`). The law `the_next_opening_is_a_base` cites it.
use Rattle.std.proofs.Common.{◌≡◌, ℕ, zero, suc, ◌<◌, ◌≤◌, ◌&&◌, ◌==◌, Bool, true, false, not, cond, List, [], ◌∷◌, ◌++◌, map, filter, Contains, Option, Some, None, is_none, ⊎_elim, refl, sym, subst, arith, true≢false}
use Rattle.std.specs.List.{list_all, list_any, flat_map}
use Rattle.std.specs.Option.{unwrap_or, option_map_or}
use Rattle.std.proofs.lemmas.Bool.{leb-true, le-leb}
use Rattle.album_eval.specs.declared.facts.Principal.{Principal}
use Rattle.album_items.specs.ItemBack.{number_of-item}
use Rattle.album_items.specs.ItemIds.{picture, album, list, number_of}
use Rattle.album_items.specs.Openings.{Row, is_low, are_low, has_low_numbers, is_low_row, greatest_number}
use Rattle.album_items.specs.Values.{head_of, home_of, children_of, list_of}
use Rattle.album_items.specs.declared.openings.Opening.{Opening}
use Rattle.album_items.specs.declared.values.Value.{Value}
use Rattle.album_items.specs.declared.values.Value.TheVariants as value
use Rattle.album_partition.specs.Marks.{value_in, first_value}
use Rattle.album_reader.specs.Atomic.{IsReadAtomic, IsWrittenBy}
use Rattle.album_views.specs.Seen.{seen}
use Rattle.album_views.specs.declared.asks.Ask.{Ask}
use Rattle.album_views.specs.declared.asks.Ask.TheVariants as ask
use Rattle.album_views.specs.declared.asks.NewList.{NewList}
use Rattle.album_views.specs.declared.asks.NewMembership.{NewMembership}
use Rattle.album_lists.specs.declared.whos.Member.{Member}
use Rattle.album_listing.specs.Masks.{ADD_FILE, DELETE_CHILD}
use Rattle.album_listing.specs.Reasons.{on, is_granted_on}
use Rattle.album_listing.specs.declared.reasons.Alternative.{Alternative}
use Rattle.album_permits.proofs.Elements.{Each, each-append, each-one, each-mapped, each-fold, first, behind}
use Rattle.album_permits.proofs.Granting.{basis_for, needs-met}
use Rattle.album_permits.proofs.Needing.{effect-may}
use Rattle.album_permits.specs.Changes.{with_title, with_content, with_home, with_owner, with_members, with_children, others, without_child, with_child}
use Rattle.album_permits.specs.Effects.{Write, list_dropped, taken_out, list_written, members_written, written, effect_of}
use Rattle.album_permits.specs.Findings.{is_missing}
use Rattle.album_permits.specs.Meaning.{is_of_change, is_need_met, objects_changed, MayWrite}
use Rattle.album_permits.specs.Meaning.MayWrite.{New, Object, ListOf}
use Rattle.album_permits.specs.Needs.{needs_of}
use Rattle.album_permits.specs.Permits.{PermitState, IsPermit}
use Rattle.album_client.specs.Steps.{Transaction}
use Rattle.album_client.specs.Terms.{terms_of}
use Rattle.album_world.specs.Atomic.{writes_in_world}
use Rattle.album_world.specs.Granted.{IsGranted}
use Rattle.album_world.specs.Past.{World}
use Rattle.album_world.proofs.AgeLemmas.{changed_there, low_lists, new_number, pair_in}
use Rattle.album_world.proofs.ListLemmas.{In, and_both, and_left, and_right, contains, in_all, in_cases, in_filter, in_map, in_nil, in_one, not_true, within}
use Rattle.album_world.proofs.ListLemmas.In.{here, there}
use Rattle.album_world.proofs.ShownLemmas.{IsShownBy, shown_or_missing}

-- ---- low numbers

is_low_more : (n m number : ℕ) → n ≤ m → is_low n number ≡ true → is_low m number ≡ true
is_low_more n m number le low =
    let was : number ≤ n = leb-true number n low in
    le-leb number m (omega (arith, was, le))

are_low_more : (n m : ℕ) (items : List ℕ) → n ≤ m → are_low n items ≡ true → are_low m items ≡ true
are_low_more n m [] le low = refl
are_low_more n m (i ∷ items) le low =
    and_both (is_low m (number_of i)) (are_low m items)
    (is_low_more n m (number_of i) le (and_left (is_low n (number_of i)) (are_low n items) low))
    (are_low_more n m items le (and_right (is_low n (number_of i)) (are_low n items) low))

home_low_more : (n m : ℕ) (home : Option ℕ) → n ≤ m → option_map_or (is_low n) home true ≡ true
    → option_map_or (is_low m) home true ≡ true
home_low_more n m None le low = refl
home_low_more n m (Some home) le low = is_low_more n m home le low

-- what an album's numbers are
record IsLowAlbum (n number : ℕ) (home : Option ℕ) (children : List ℕ) : Type 0 where
  list_low : is_low n number ≡ true
  home_low : option_map_or (is_low n) home true ≡ true
  children_low : are_low n children ≡ true

album_parts : (n number : ℕ) (home : Option ℕ) (children : List ℕ)
    → is_low n number && option_map_or (is_low n) home true && are_low n children ≡ true → IsLowAlbum n number home children
album_parts n number home children low =
    let both = and_left (is_low n number && option_map_or (is_low n) home true) (are_low n children) low in
    record {
      list_low = and_left (is_low n number) (option_map_or (is_low n) home true) both;
      home_low = and_right (is_low n number) (option_map_or (is_low n) home true) both;
      children_low = and_right (is_low n number && option_map_or (is_low n) home true) (are_low n children) low;
    }

album_from : (n number : ℕ) (home : Option ℕ) (children : List ℕ) → IsLowAlbum n number home children
    → is_low n number && option_map_or (is_low n) home true && are_low n children ≡ true
album_from n number home children h =
    and_both (is_low n number && option_map_or (is_low n) home true) (are_low n children)
    (and_both (is_low n number) (option_map_or (is_low n) home true) h.list_low h.home_low) h.children_low

-- they are at most a greater bound too
low_more : (n m : ℕ) (v : Value) → n ≤ m → has_low_numbers n v ≡ true → has_low_numbers m v ≡ true
low_more n m value.Missing le low = refl
low_more n m (value.Picture x) le low =
    and_both (is_low m x.head.list) (is_low m x.home)
    (is_low_more n m x.head.list le (and_left (is_low n x.head.list) (is_low n x.home) low))
    (is_low_more n m x.home le (and_right (is_low n x.head.list) (is_low n x.home) low))
low_more n m (value.Album x) le low =
    let h = album_parts n x.head.list x.home x.children low in
    album_from m x.head.list x.home x.children (record {
      list_low = is_low_more n m x.head.list le h.list_low;
      home_low = home_low_more n m x.home le h.home_low;
      children_low = are_low_more n m x.children le h.children_low;
    })
low_more n m (value.List x) le low = refl
low_more n m (value.Group x) le low = is_low_more n m x.head.list le low

pub low_row_more : (n m : ℕ) (row : Row) → n ≤ m → is_low_row n row ≡ true → is_low_row m row ≡ true
low_row_more n m row le low =
    and_both (is_low m (number_of row.0)) (has_low_numbers m row.1)
    (is_low_more n m (number_of row.0) le (and_left (is_low n (number_of row.0)) (has_low_numbers n row.1) low))
    (low_more n m row.1 le (and_right (is_low n (number_of row.0)) (has_low_numbers n row.1) low))

-- ---- values with one thing changed

others_low : (n child : ℕ) (items : List ℕ) → are_low n items ≡ true → are_low n (others child items) ≡ true
others_low n child [] low = refl
others_low n child (i ∷ items) low =
    go (not (child == i)) (others_low n child items (and_right (is_low n (number_of i)) (are_low n items) low))
  where
    go : (b : Bool) → are_low n (others child items) ≡ true
        → are_low n (cond b (i ∷ others child items) (others child items)) ≡ true
    go true rest =
        and_both (is_low n (number_of i)) (are_low n (others child items))
        (and_left (is_low n (number_of i)) (are_low n items) low) rest
    go false rest = rest

append_low : (n child : ℕ) (items : List ℕ) → are_low n items ≡ true → is_low n (number_of child) ≡ true
    → are_low n (items ++ child ∷ []) ≡ true
append_low n child [] low own = and_both (is_low n (number_of child)) true own refl
append_low n child (i ∷ items) low own =
    and_both (is_low n (number_of i)) (are_low n (items ++ child ∷ []))
    (and_left (is_low n (number_of i)) (are_low n items) low)
    (append_low n child items (and_right (is_low n (number_of i)) (are_low n items) low) own)

module _ (n : ℕ) where
  titled_low : (title : List ℕ) (v : Value) → has_low_numbers n v ≡ true → has_low_numbers n (with_title title v) ≡ true
  titled_low title value.Missing low = low
  titled_low title (value.Picture x) low = low
  titled_low title (value.Album x) low = low
  titled_low title (value.List x) low = low
  titled_low title (value.Group x) low = low

  filled_low : (content : List ℕ) (v : Value) → has_low_numbers n v ≡ true → has_low_numbers n (with_content content v) ≡ true
  filled_low content value.Missing low = low
  filled_low content (value.Picture x) low = low
  filled_low content (value.Album x) low = low
  filled_low content (value.List x) low = low
  filled_low content (value.Group x) low = low

  homed_low : (home : ℕ) (v : Value) → is_low n home ≡ true → has_low_numbers n v ≡ true → has_low_numbers n (with_home home v) ≡ true
  homed_low home value.Missing own low = low
  homed_low home (value.Picture x) own low =
      and_both (is_low n x.head.list) (is_low n home) (and_left (is_low n x.head.list) (is_low n x.home) low) own
  homed_low home (value.Album x) own low = low
  homed_low home (value.List x) own low = low
  homed_low home (value.Group x) own low = low

  owned_low : (owner : List ℕ) (number : ℕ) (v : Value) → has_low_numbers n v ≡ true
      → has_low_numbers n (with_owner owner number v) ≡ true
  owned_low owner number value.Missing low = low
  owned_low owner number (value.Picture x) low = low
  owned_low owner number (value.Album x) low = low
  owned_low owner number (value.List x) low = low
  owned_low owner number (value.Group x) low = low

  grouped_low : (members : List Member) (v : Value) → has_low_numbers n v ≡ true
      → has_low_numbers n (with_members members v) ≡ true
  grouped_low members value.Missing low = low
  grouped_low members (value.Picture x) low = low
  grouped_low members (value.Album x) low = low
  grouped_low members (value.List x) low = low
  grouped_low members (value.Group x) low = low

  children_low_in : (v : Value) → has_low_numbers n v ≡ true → are_low n (children_of v) ≡ true
  children_low_in value.Missing low = refl
  children_low_in (value.Picture x) low = refl
  children_low_in (value.Album x) low = (album_parts n x.head.list x.home x.children low).children_low
  children_low_in (value.List x) low = refl
  children_low_in (value.Group x) low = refl

  with_low : (children : List ℕ) (v : Value) → are_low n children ≡ true → has_low_numbers n v ≡ true
      → has_low_numbers n (with_children children v) ≡ true
  with_low children value.Missing own low = low
  with_low children (value.Picture x) own low = low
  with_low children (value.Album x) own low =
      let h = album_parts n x.head.list x.home x.children low in
      album_from n x.head.list x.home children
      (record { list_low = h.list_low; home_low = h.home_low; children_low = own })
  with_low children (value.List x) own low = low
  with_low children (value.Group x) own low = low

  left_low : (child : ℕ) (v : Value) → has_low_numbers n v ≡ true → has_low_numbers n (without_child child v) ≡ true
  left_low child v low = with_low (others child (children_of v)) v (others_low n child (children_of v) (children_low_in v low)) low

  joined_low : (child : ℕ) (v : Value) → is_low n (number_of child) ≡ true → has_low_numbers n v ≡ true
      → has_low_numbers n (with_child child v) ≡ true
  joined_low child v own low =
      with_low (others child (children_of v) ++ child ∷ []) v
      (append_low n child (others child (children_of v)) (others_low n child (children_of v) (children_low_in v low)) own) low

-- ---- the writes of an ask

-- of the needs of a move, that on where the object goes is behind those on its homes
behind_homes : (homes : List ℕ) (to : ℕ)
    → Contains (map (λ (a : Alternative). a.object)
    (filter (λ (a : Alternative). is_of_change a.mask) (map (λ (home : ℕ). on home DELETE_CHILD) homes ++ on to ADD_FILE ∷ []))) to
behind_homes [] to = first to []
behind_homes (home ∷ homes) to = behind home _ to (behind_homes homes to)

module _ (shown : ℕ → Value) (me : Principal) (stamp : ℕ) (low : (item : ℕ) → has_low_numbers stamp (shown item) ≡ true) where
  abbrev IsLow : Write → Type 0
  IsLow w = has_low_numbers stamp w.1 ≡ true

  own_low : is_low stamp stamp ≡ true
  own_low = le-leb stamp stamp (omega arith)

  made_low : (item : ℕ) → number_of item ≡ stamp → is_low stamp (number_of item) ≡ true
  made_low item e = le-leb (number_of item) stamp (omega (arith, e))

  lists_low : (news : List NewList) → Each IsLow (flat_map (list_written shown) news)
  lists_low [] = tt
  lists_low (new ∷ news) =
      each-append IsLow (list_written shown new) (flat_map (list_written shown) news)
      (each-mapped IsLow (λ item. value.List new.list) (list_of (shown new.object)) (λ item c. refl))
      (lists_low news)

  members_low : (news : List NewMembership) → Each IsLow (map (members_written shown) news)
  members_low [] = tt
  members_low (new ∷ news) = (grouped_low stamp new.members (shown new.object) (low new.object), members_low news)

  taken_low : (object : ℕ) → Each IsLow (taken_out shown object)
  taken_low object =
      each-mapped IsLow (λ home. without_child object (shown home)) (home_of (shown object))
      (λ home c. left_low stamp object (shown home) (low home))

  -- where the objects that it changes have low numbers
  written_low : (a : Ask) → ((object : ℕ) → Contains (objects_changed shown a) object → number_of object ≤ stamp)
      → Each IsLow (written shown me stamp a)
  written_low (ask.Read object) h = tt
  written_low (ask.List object) h = tt
  written_low (ask.GetList object) h = tt
  written_low (ask.Head object) h = tt
  written_low (ask.Children object) h = tt
  written_low (ask.AddPicture into title content) h = (
    and_both (is_low stamp stamp) (is_low stamp (number_of into)) own_low (le-leb (number_of into) stamp (h into (first into []))),
    (
      refl,
      (
        joined_low stamp (picture stamp) (shown into)
            (made_low (picture stamp) (number_of-item 0 stamp (omega arith))) (low into),
        tt,
      ),
    ),
  )
  written_low (ask.AddAlbum into title) h = (
    album_from stamp stamp (Some (number_of into)) [] (record {
      list_low = own_low;
      home_low = le-leb (number_of into) stamp (h into (first into []));
      children_low = refl;
    }),
    (
      refl,
      (
        joined_low stamp (album stamp) (shown into)
            (made_low (album stamp) (number_of-item 1 stamp (omega arith))) (low into),
        tt,
      ),
    ),
  )
  written_low (ask.AddGroup into members) h = (own_low, (refl, tt))
  written_low (ask.Retitle object title) h = (titled_low stamp title (shown object) (low object), tt)
  written_low (ask.Replace object content) h = (filled_low stamp content (shown object) (low object), tt)
  written_low (ask.Delete object) h = (
    refl,
    each-append IsLow (list_dropped shown object) (taken_out shown object)
        (each-mapped IsLow (λ item. value.Missing) (list_of (shown object)) (λ item c. refl))
        (taken_low object),
  )
  written_low (ask.Move object to) h = (
    homed_low stamp (number_of to) (shown object)
        (le-leb (number_of to) stamp (h to (behind object _ to (behind_homes (home_of (shown object)) to)))) (low object),
    each-append IsLow (taken_out shown object) ((to, with_child object (shown to)) ∷ []) (taken_low object)
        (joined_low stamp object (shown to) (le-leb (number_of object) stamp (h object (first object _))) (low to), tt),
  )
  written_low (ask.SetLists news) h = lists_low news
  written_low (ask.SetOwner object owner number) h = (owned_low stamp owner number (shown object) (low object), tt)
  written_low (ask.SetMembers object members) h = (grouped_low stamp members (shown object) (low object), tt)
  written_low (ask.Share news groups) h =
      each-append IsLow (flat_map (list_written shown) news) (map (members_written shown) groups) (lists_low news) (members_low groups)

-- ---- what an ask changes is there

-- ---- in a world

-- An item with a value, as a view may show it: no number is above the bound. An item that is missing has any.
record IsShownLow (n item : ℕ) (v : Value) : Type 0 where
  numbers : has_low_numbers n v ≡ true
  own : is_none (head_of v) ≡ false → number_of item ≤ n

shown_missing : (n item : ℕ) → IsShownLow n item value.Missing
shown_missing n item = record { numbers = refl; own = λ headed. absurd (true≢false headed) }

shown_row : (n m item : ℕ) (v : Value) → n ≤ m → is_low_row n (item, v) ≡ true → IsShownLow m item v
shown_row n m item v le low =
    let number : number_of item ≤ n =
    leb-true (number_of item) n (and_left (is_low n (number_of item)) (has_low_numbers n v) low) in
    record {
      numbers = low_more n m v le (and_right (is_low n (number_of item)) (has_low_numbers n v) low);
      own = λ headed. omega (arith, number, le);
    }

-- what an opening has
first_low : (n m : ℕ) (items : List Row) (item : ℕ) → n ≤ m → list_all (is_low_row n) items ≡ true
    → IsShownLow m item (first_value items item)
first_low n m items item le right = go (value_in items item) refl
  where
    go : (o : Option Value) → value_in items item ≡ o → IsShownLow m item (unwrap_or o value.Missing)
    go None e = shown_missing m item
    go (Some v) e = shown_row n m item v le (in_all (is_low_row n) items right (pair_in items item v e))

module _ (o : Opening) (w : World) (right : list_all (is_low_row (greatest_number o.first)) o.items ≡ true)
    (granted : (by : Transaction) → Contains w.past.transactions by → IsGranted (terms_of o) w by)
    (high : (by : Transaction) → Contains w.past.transactions by → greatest_number o.first < by.stamp)
    (atomic : (by : Transaction) → Contains w.past.transactions by
    → IsReadAtomic (writes_in_world w) (first_value o.items) by.permit.view.rows) where
  abbrev top : ℕ
  top = greatest_number o.first

  -- what is written below a bound
  abbrev Lows : ℕ → Type 0
  Lows n = (by : Transaction) → Contains w.past.transactions by → by.stamp < n → (i : ℕ) (v : Value)
      → value_in by.writes i ≡ Some v → is_low_row by.stamp (i, v) ≡ true

  -- what a view shows
  seen_low : (n : ℕ) → Lows n → (by : Transaction) → Contains w.past.transactions by → by.stamp ≤ n → (i : ℕ)
      → IsShownLow by.stamp i (seen by.permit.view.rows i)
  seen_low n rest by begun low i = ⊎_elim of_row
      (λ gone. subst (IsShownLow by.stamp i) (sym gone) (shown_missing by.stamp i))
      (shown_or_missing by.permit.view.rows i)
    where
      of_row : IsShownBy by.permit.view.rows i → IsShownLow by.stamp i (seen by.permit.view.rows i)
      of_row shown =
          let g = granted by begun in
          let below : shown.row.stamp < by.stamp = g.later shown.row
          (subst (λ (p : PermitState). Contains p.view.rows shown.row) g.on shown.there) in
          let above : top < by.stamp = high by begun in
          subst (λ (x : ℕ × Value). IsShownLow by.stamp x.0 x.1) (λ j. (shown.of j, sym shown.value j))
          (⊎_elim
          (λ (first : (shown.row.stamp ≡ 0) × (shown.row.value ≡ first_value o.items shown.row.item)).
          subst (IsShownLow by.stamp shown.row.item) (sym first.1)
          (first_low top by.stamp o.items shown.row.item (omega (arith, above)) right))
          (λ (write : IsWrittenBy (writes_in_world w) shown.row).
          let at : write.by.by.stamp ≡ shown.row.stamp = write.at in
          shown_row write.by.by.stamp by.stamp shown.row.item shown.row.value (omega (arith, at, below))
          (rest write.by.by write.by.begun (omega (arith, at, below, low)) shown.row.item shown.row.value write.wrote))
          ((atomic by begun).written shown.row shown.there))

  step : (n : ℕ) → Lows n → Lows (suc n)
  step n rest by begun low i v wrote =
      let g = granted by begun in
      let c : Contains (effect_of by.permit by.stamp) (i, v) =
      subst (λ (ws : List Row). Contains ws (i, v)) g.writes.effect (contains (pair_in by.writes i v wrote)) in
      let rows = by.permit.view.rows in
      and_both (is_low by.stamp (number_of i)) (has_low_numbers by.stamp v)
      (le-leb (number_of i) by.stamp (item_low i (effect-may by.permit by.stamp (i, v) c)))
      (each-one (λ (x : Write). has_low_numbers by.stamp x.1 ≡ true) (effect_of by.permit by.stamp) (i, v)
      (each-fold (λ (x : Write). has_low_numbers by.stamp x.1 ≡ true) []
      (written (seen rows) by.permit.principal by.stamp by.permit.view.ask) tt
      (written_low (seen rows) by.permit.principal by.stamp (λ item. (sees item).numbers) by.permit.view.ask there_is)) c)
    where
      sees : (item : ℕ) → IsShownLow by.stamp item (seen by.permit.view.rows item)
      sees item = seen_low n rest by begun (omega (arith, low)) item

      there_is : (object : ℕ) → Contains (objects_changed (seen by.permit.view.rows) by.permit.view.ask) object
          → number_of object ≤ by.stamp
      there_is object c = (sees object).own (changed_there by.permit (granted by begun).granted object c)

      item_low : (item : ℕ) → MayWrite (seen by.permit.view.rows) by.stamp by.permit.view.ask item → number_of item ≤ by.stamp
      item_low item (New new c) = let e : number_of item ≡ by.stamp = new_number by.permit.view.ask by.stamp item c in omega (arith, e)
      item_low item (Object object c) = there_is object c
      item_low item (ListOf object other c whose) =
          low_lists by.stamp (seen by.permit.view.rows object) (sees object).numbers item whose

  lows : (n : ℕ) → Lows n
  lows zero = λ by begun low i v wrote. absurd (omega (arith, low))
  lows (suc n) = step n (lows n)

  pub low_writes : (by : Transaction) → Contains w.past.transactions by → (i : ℕ) (v : Value)
      → value_in by.writes i ≡ Some v → is_low_row by.stamp (i, v) ≡ true
  low_writes by begun i v wrote = lows (suc by.stamp) by begun (omega arith) i v wrote

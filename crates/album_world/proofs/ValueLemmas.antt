-- What each value that is written has of what the view shows, and of which subject it is (`written_as`). For
-- `AgeLemmas`, `StayLemmas` and `KeepLemmas`.
use Rattle.std.proofs.Common.{◌≡◌, ◌==◌, ℕ, Bool, true, false, not, List, [], ◌∷◌, ◌++◌, Contains, is_none, map, ◌⊎◌, inl, inr, refl, sym, ap, ◌∙◌, subst, arith}
use Rattle.std.specs.List.{flat_map}
use Rattle.std.proofs.lemmas.Bool.{both_ways, eqb-true, not_from_false}
use Rattle.std.proofs.lemmas.List.Elements.{Contains-append_left, Contains-append_right, Contains-push}
use Rattle.album_eval.specs.declared.facts.Principal.{Principal}
use Rattle.album_lists.specs.declared.lists.Ace.{Ace}
use Rattle.album_lists.specs.declared.whos.Member.{Member}
use Rattle.album_items.specs.ItemIds.{picture, album, list, number_of}
use Rattle.album_items.specs.Values.{head_of, home_of, children_of, list_of, members_of}
use Rattle.album_items.specs.declared.values.Value.{Value}
use Rattle.album_items.specs.declared.values.Value.TheVariants as value
use Rattle.album_views.specs.Asks.{Wanted, want, headed, once, objects_of, made_by}
use Rattle.album_views.specs.ReadSets.{subjects_of}
use Rattle.album_views.proofs.Sets.{has-Contains, Contains-has, all-new}
use Rattle.album_views.specs.Seen.{seen}
use Rattle.album_views.specs.declared.asks.Ask.{Ask}
use Rattle.album_views.specs.declared.asks.Ask.TheVariants as ask
use Rattle.album_views.specs.declared.asks.NewList.{NewList}
use Rattle.album_views.specs.declared.asks.NewMembership.{NewMembership}
use Rattle.album_listing.specs.Fields.{title_field, content_field}
use Rattle.album_permits.proofs.Elements.{Each, each-append, each-one, each-mapped, each-fold, was-kept, first, behind}
use Rattle.album_permits.specs.Changes.{with_title, with_content, with_home, with_owner, with_members, others, without_child, with_child}
use Rattle.album_permits.specs.Effects.{Write, list_dropped, taken_out, list_written, members_written, written, effect_of}
use Rattle.album_permits.specs.Permits.{PermitState}
use Rattle.album_world.proofs.ListLemmas.{contains, in_one, in_nil, map_in, within}
use Rattle.album_world.specs.Staying.{TakesOut, SetsTitle, SetsContent, HandsOver, SetsList, SetsMembers}
use Rattle.album_world.specs.Staying.TakesOut.{Deletes, Moves}
use Rattle.album_world.specs.Staying.HandsOver.{SetsOwner}
use Rattle.album_world.specs.Staying.SetsTitle.{Retitles}
use Rattle.album_world.specs.Staying.SetsContent.{Replaces}
use Rattle.album_world.specs.Staying.SetsList.{Sets as SetsOnly, Shares as SharesList}
use Rattle.album_world.specs.Staying.SetsMembers.{Sets, Shares}

-- ---- the two values of one item

module _ (shown : ℕ → Value) (stamp : ℕ) (asked : Ask) where
  -- what a value has of the one before it
  pub record IsRewritten (item : ℕ) (was is : Value) : Type 0 where
    pub own_list : list_of is ≡ list_of was
    pub entries : (entries : List Ace) → was ≡ value.List entries → is ≡ value.List entries
    pub gone : was ≡ value.Missing → is ≡ value.Missing
    pub title : (title_field is ≡ title_field was) ⊎ SetsTitle item asked
    pub content : (content_field is ≡ content_field was) ⊎ SetsContent item asked
    pub home : (home_of is ≡ home_of was) ⊎ TakesOut item asked
    pub head : (head_of is ≡ head_of was) ⊎ HandsOver item asked
    pub group : (members_of is ≡ members_of was) ⊎ SetsMembers item asked
    pub children :
        (child : ℕ) → Contains (children_of was) child → Contains (children_of is) child ⊎ TakesOut child asked

  -- how a value may come to be written to an item
  pub data IsWrittenAs (item : ℕ) (is : Value) : Type 0 where
    Made :
        Contains (made_by asked stamp) item → ((number : ℕ) → Contains (list_of is) number → number ≡ list stamp) → IsWrittenAs item is
    Rewritten : Contains (subjects_of shown asked) item → IsRewritten item (shown item) is → IsWrittenAs item is
    Gone :
        (object : ℕ) → Contains (subjects_of shown asked) object → asked ≡ ask.Delete object
        → (object ≡ item) ⊎ Contains (list_of (shown object)) item → is ≡ value.Missing → IsWrittenAs item is
    Listed :
        (object : ℕ) → Contains (subjects_of shown asked) object → Contains (list_of (shown object)) item
        → SetsList shown item asked → (entries : List Ace) → is ≡ value.List entries → IsWrittenAs item is

  module _ (item : ℕ) where
    -- what is there, and is no list
    there :
        (was is : Value) → is_none (head_of was) ≡ false → list_of is ≡ list_of was
        → (title_field is ≡ title_field was) ⊎ SetsTitle item asked
        → (content_field is ≡ content_field was) ⊎ SetsContent item asked
        → (home_of is ≡ home_of was) ⊎ TakesOut item asked
        → (head_of is ≡ head_of was) ⊎ HandsOver item asked
        → (members_of is ≡ members_of was) ⊎ SetsMembers item asked
        → ((child : ℕ) → Contains (children_of was) child → Contains (children_of is) child ⊎ TakesOut child asked)
        → IsRewritten item was is
    there was is headed own title content home head group children = record {
      own_list = own;
      entries = λ entries e. absurd (both_ways true (sym (ap (λ (v : Value). is_none (head_of v)) e) ∙ headed) refl);
      gone = λ e. absurd (both_ways true (sym (ap (λ (v : Value). is_none (head_of v)) e) ∙ headed) refl);
      title = title;
      content = content;
      home = home;
      head = head;
      group = group;
      children = children;
    }

    unchanged : (v : Value) → IsRewritten item v v
    unchanged v = record {
      own_list = refl;
      entries = λ entries e. e;
      gone = λ e. e;
      title = inl refl;
      content = inl refl;
      home = inl refl;
      head = inl refl;
      group = inl refl;
      children = λ child c. inl c;
    }

    titled : (title : List ℕ) (v : Value) → SetsTitle item asked → IsRewritten item v (with_title title v)
    titled title value.Missing h = unchanged value.Missing
    titled title (value.Picture x) h = there (value.Picture x) _ refl refl
        (inr h) (inl refl) (inl refl) (inl refl) (inl refl) (λ child c. inl c)
    titled title (value.Album x) h = there (value.Album x) _ refl refl
        (inr h) (inl refl) (inl refl) (inl refl) (inl refl) (λ child c. inl c)
    titled title (value.List x) h = unchanged (value.List x)
    titled title (value.Group x) h = unchanged (value.Group x)

    filled : (content : List ℕ) (v : Value) → SetsContent item asked → IsRewritten item v (with_content content v)
    filled content value.Missing h = unchanged value.Missing
    filled content (value.Picture x) h = there (value.Picture x) _ refl refl
        (inl refl) (inr h) (inl refl) (inl refl) (inl refl) (λ child c. inl c)
    filled content (value.Album x) h = unchanged (value.Album x)
    filled content (value.List x) h = unchanged (value.List x)
    filled content (value.Group x) h = unchanged (value.Group x)

    homed : (home : ℕ) (v : Value) → TakesOut item asked → IsRewritten item v (with_home home v)
    homed home value.Missing h = unchanged value.Missing
    homed home (value.Picture x) h = there (value.Picture x) _ refl refl
        (inl refl) (inl refl) (inr h) (inl refl) (inl refl) (λ child c. inl c)
    homed home (value.Album x) h = unchanged (value.Album x)
    homed home (value.List x) h = unchanged (value.List x)
    homed home (value.Group x) h = unchanged (value.Group x)

    owned : (owner : List ℕ) (number : ℕ) (v : Value) → HandsOver item asked
        → IsRewritten item v (with_owner owner number v)
    owned owner number value.Missing h = unchanged value.Missing
    owned owner number (value.Picture x) h = there (value.Picture x) _ refl refl
        (inl refl) (inl refl) (inl refl) (inr h) (inl refl) (λ child c. inl c)
    owned owner number (value.Album x) h = there (value.Album x) _ refl refl
        (inl refl) (inl refl) (inl refl) (inr h) (inl refl) (λ child c. inl c)
    owned owner number (value.List x) h = unchanged (value.List x)
    owned owner number (value.Group x) h = there (value.Group x) _ refl refl
        (inl refl) (inl refl) (inl refl) (inr h) (inl refl) (λ child c. inl c)

    grouped : (ms : List Member) (v : Value) → SetsMembers item asked → IsRewritten item v (with_members ms v)
    grouped ms value.Missing h = unchanged value.Missing
    grouped ms (value.Picture x) h = unchanged (value.Picture x)
    grouped ms (value.Album x) h = unchanged (value.Album x)
    grouped ms (value.List x) h = unchanged (value.List x)
    grouped ms (value.Group x) h = there (value.Group x) _ refl refl
        (inl refl) (inl refl) (inl refl) (inl refl) (inr h) (λ child c. inl c)

    joined : (child : ℕ) (v : Value) → IsRewritten item v (with_child child v)
    joined child value.Missing = unchanged value.Missing
    joined child (value.Picture x) = unchanged (value.Picture x)
    joined child (value.Album x) = there (value.Album x) _ refl refl
        (inl refl) (inl refl) (inl refl) (inl refl) (inl refl)
        (λ other c. inl (go other c (child == other) refl))
      where
        go : (other : ℕ) → Contains x.children other → (b : Bool) → (child == other) ≡ b
            → Contains (others child x.children ++ child ∷ []) other
        go other c true e = subst (Contains (others child x.children ++ child ∷ [])) (eqb-true child other e)
            (Contains-push (others child x.children) child)
        go other c false e = Contains-append_left (others child x.children) (child ∷ []) other
            (was-kept (λ o. not (child == o)) x.children other (not_from_false (child == other) e) c)
    joined child (value.List x) = unchanged (value.List x)
    joined child (value.Group x) = unchanged (value.Group x)

    left : (child : ℕ) (v : Value) → TakesOut child asked → IsRewritten item v (without_child child v)
    left child value.Missing h = unchanged value.Missing
    left child (value.Picture x) h = unchanged (value.Picture x)
    left child (value.Album x) h = there (value.Album x) _ refl refl
        (inl refl) (inl refl) (inl refl) (inl refl) (inl refl)
        (λ other c. go other c (child == other) refl)
      where
        go : (other : ℕ) → Contains x.children other → (b : Bool) → (child == other) ≡ b
            → Contains (others child x.children) other ⊎ TakesOut other asked
        go other c true e = inr (subst (λ (o : ℕ). TakesOut o asked) (eqb-true child other e) h)
        go other c false e =
            inl (was-kept (λ o. not (child == o)) x.children other (not_from_false (child == other) e) c)
    left child (value.List x) h = unchanged (value.List x)
    left child (value.Group x) h = unchanged (value.Group x)

  -- ---- the writes of an ask

  abbrev IsRight : Write → Type 0
  IsRight w = IsWrittenAs w.0 w.1

  listed : (news all : List NewList) → ((new : NewList) → Contains news new → Contains all new)
      → ((new : NewList) (item : ℕ) → Contains all new → Contains (list_of (shown new.object)) item
      → SetsList shown item asked)
      → ((new : NewList) → Contains all new → Contains (subjects_of shown asked) new.object)
      → Each IsRight (flat_map (list_written shown) news)
  listed [] all within sets named = tt
  listed (new ∷ news) all within sets named =
      each-append IsRight (list_written shown new) (flat_map (list_written shown) news)
      (each-mapped IsRight (λ item. value.List new.list) (list_of (shown new.object))
      (λ item whose. Listed new.object (named new (within new (first new news))) whose
      (sets new item (within new (first new news)) whose) new.list refl))
      (listed news all (λ other c. within other (behind new news other c)) sets named)

  membered : (news all : List NewMembership) → ((new : NewMembership) → Contains news new → Contains all new)
      → ((new : NewMembership) → Contains all new → SetsMembers new.object asked)
      → ((new : NewMembership) → Contains all new → Contains (subjects_of shown asked) new.object)
      → Each IsRight (map (members_written shown) news)
  membered [] all within sets named = tt
  membered (new ∷ news) all within sets named = (
    Rewritten (named new (within new (first new news)))
        (grouped new.object new.members (shown new.object) (sets new (within new (first new news)))),
    membered news all (λ other c. within other (behind new news other c)) sets named,
  )

  taken : (object : ℕ) → TakesOut object asked
      → ((home : ℕ) → Contains (home_of (shown object)) home → Contains (subjects_of shown asked) home)
      → Each IsRight (taken_out shown object)
  taken object h named =
      each-mapped IsRight (λ home. without_child object (shown home)) (home_of (shown object))
      (λ home c. Rewritten (named home c) (left home object (shown home) h))

module _ (shown : ℕ → Value) (me : Principal) (stamp : ℕ) where
  one-list : (number other : ℕ) → Contains (list number ∷ []) other → other ≡ list number
  one-list number other c = in_one (within (list number ∷ []) c)

  no-list : {P : Type 0} (other : ℕ) → Contains [] other → P
  no-list other c = in_nil (within [] c)

  shared : (objects others : List ℕ) (item : ℕ) → Contains (objects ++ others) item
      → Contains (once (objects ++ others) ++ []) item
  shared objects others item c =
      Contains-append_left (once (objects ++ others)) [] item
      (has-Contains (once (objects ++ others)) item
      (all-new [] (objects ++ others) item (Contains-has (objects ++ others) item c)))

  written_each : (a : Ask) → Each (IsRight shown stamp a) (written shown me stamp a)
  written_each (ask.Read object) = tt
  written_each (ask.List object) = tt
  written_each (ask.GetList object) = tt
  written_each (ask.Head object) = tt
  written_each (ask.Children object) = tt
  written_each (ask.AddPicture into title content) = let a : Ask = ask.AddPicture into title content in (
    Made (0, omega arith, refl) (one-list stamp),
    (
      Made (1, omega arith, refl) (λ n c. no-list n c),
      (Rewritten (first into []) (joined shown stamp a into (picture stamp) (shown into)), tt),
    ),
  )
  written_each (ask.AddAlbum into title) = let a : Ask = ask.AddAlbum into title in (
    Made (0, omega arith, refl) (one-list stamp),
    (
      Made (1, omega arith, refl) (λ n c. no-list n c),
      (Rewritten (first into []) (joined shown stamp a into (album stamp) (shown into)), tt),
    ),
  )
  written_each (ask.AddGroup into ms) =
      (Made (0, omega arith, refl) (one-list stamp), (Made (1, omega arith, refl) (λ n c. no-list n c), tt))
  written_each (ask.Retitle object title) =
      (Rewritten (first object []) (titled shown stamp (ask.Retitle object title) object title (shown object) (Retitles title)), tt)
  written_each (ask.Replace object content) =
      (Rewritten (first object []) (filled shown stamp (ask.Replace object content) object content (shown object) (Replaces content)), tt)
  written_each (ask.Delete object) =
      let a : Ask = ask.Delete object in
      let here : Contains (subjects_of shown a) object = first object (home_of (shown object)) in (
        Gone object here refl (inl refl) refl,
        each-append (IsRight shown stamp a) (list_dropped shown object) (taken_out shown object)
            (each-mapped (IsRight shown stamp a) (λ item. value.Missing) (list_of (shown object))
            (λ item c. Gone object here refl (inr c) refl))
            (taken shown stamp a object Deletes (λ home c. behind object (home_of (shown object)) home c)),
      )
  written_each (ask.Move object to) =
      let a : Ask = ask.Move object to in
      let homes = home_of (shown object) in (
        Rewritten (first object (to ∷ homes)) (homed shown stamp a object (number_of to) (shown object) (Moves to)),
        each-append (IsRight shown stamp a) (taken_out shown object) ((to, with_child object (shown to)) ∷ [])
            (taken shown stamp a object (Moves to)
            (λ home c. behind object (to ∷ homes) home (behind to homes home c)))
            (Rewritten (behind object (to ∷ homes) to (first to homes)) (joined shown stamp a to object (shown to)), tt),
      )
  written_each (ask.SetLists news) =
      listed shown stamp (ask.SetLists news) news news (λ new c. c) (λ new item c whose. SetsOnly news new c whose)
      (λ new c. Contains-append_left (objects_of (ask.SetLists news)) [] new.object
      (contains (map_in (λ (x : Wanted). x.object) (map_in (λ (x : NewList). want headed x.object) (within news c)))))
  written_each (ask.SetOwner object owner number) = (
    Rewritten (first object []) (owned shown stamp (ask.SetOwner object owner number) object owner number (shown object)
        (SetsOwner owner number)),
    tt,
  )
  written_each (ask.SetMembers object ms) =
      (Rewritten (first object []) (grouped shown stamp (ask.SetMembers object ms) object ms (shown object) (Sets ms)), tt)
  written_each (ask.Share news groups) =
      let a : Ask = ask.Share news groups in
      let objects : List ℕ = map (λ (new : NewList). new.object) news in
      let others : List ℕ = map (λ (new : NewMembership). new.object) groups in
      each-append (IsRight shown stamp a) (flat_map (list_written shown) news) (map (members_written shown) groups)
      (listed shown stamp a news news (λ new c. c) (λ new item c whose. SharesList news groups new c whose)
      (λ new c. shared objects others new.object
      (Contains-append_left objects others new.object (contains (map_in (λ (x : NewList). x.object) (within news c))))))
      (membered shown stamp a groups groups (λ new c. c) (λ new c. Shares news groups new c refl)
      (λ new c. shared objects others new.object
      (Contains-append_right objects others new.object
      (contains (map_in (λ (x : NewMembership). x.object) (within groups c))))))

pub written_as :
    (permit : PermitState) (stamp item : ℕ) (is : Value) → Contains (effect_of permit stamp) (item, is)
    → IsWrittenAs (seen permit.view.rows) stamp permit.view.ask item is
written_as permit stamp item is c =
    let shown = seen permit.view.rows in
    let a = permit.view.ask in
    each-one (IsRight shown stamp a) (effect_of permit stamp) (item, is)
    (each-fold (IsRight shown stamp a) [] (written shown permit.principal stamp a) tt
    (written_each shown permit.principal stamp a)) c

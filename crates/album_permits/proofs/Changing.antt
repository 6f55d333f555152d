-- A value with one thing changed differs from what it was only in what is granted (`titled`, `refilled`, `rehomed`,
-- `reowned`, `remembered`, `with-child`, `without-child`); what differs so is a granted change (`granted-change`). For
-- `Granting`.
use Rattle.std.proofs.Common.{◌≡◌, ◌⊎◌, ◌==◌, ◌++◌, ◌<◌, ℕ, zero, suc, List, [], ◌∷◌, Bool, true, false, not, Contains, is_none, inl, inr, refl, sym, ap, subst, ◌∙◌, arith}
use Rattle.std.specs.List.{slice_index_or}
use Rattle.std.proofs.lemmas.Bool.{both_ways, eqb-true, not_from_false}
use Rattle.std.proofs.lemmas.List.Elements.{Contains-append_left, Contains-push, Contains-push_cases}
use Rattle.album_lists.specs.declared.lists.Ace.{Ace}
use Rattle.album_lists.specs.declared.whos.Member.{Member}
use Rattle.album_items.specs.ItemIds.{album, kind_of}
use Rattle.album_items.specs.Values.{head_of, home_of, children_of, list_of}
use Rattle.album_items.specs.declared.values.Value.{Value}
use Rattle.album_items.specs.declared.values.Value.TheVariants as value
use Rattle.album_listing.specs.Masks.{WRITE_DATA, ADD_FILE, ADD_SUBDIRECTORY, DELETE_CHILD, WRITE_ATTRIBUTES, DELETE, WRITE_OWNER}
use Rattle.album_listing.specs.Fields.{title_field, content_field, members_field, album_home_field}
use Rattle.album_permits.specs.Changes.{with_title, with_content, with_home, with_owner, with_members, others, without_child, with_child}
use Rattle.album_permits.specs.Permits.{PermitState}
use Rattle.album_permits.specs.Rights.{is_granted_to, may_delete, IsGrantedChange}
use Rattle.album_permits.proofs.Elements.{kept-was, was-kept}

-- it is there, and is no list
abbrev pub IsHeaded : Value → Type 0
IsHeaded v = is_none (head_of v) ≡ false

-- how a child may be gained
abbrev pub MayGain : PermitState → ℕ → ℕ → Type 0
MayGain permit item child =
    ((kind_of child ≡ 0) × (is_granted_to permit item ADD_FILE ≡ true))
    ⊎ ((kind_of child ≡ 0 → ⊥) × (is_granted_to permit item ADD_SUBDIRECTORY ≡ true))

-- how it may be lost
abbrev pub MayLose : PermitState → ℕ → ℕ → Type 0
MayLose permit item child =
    (is_granted_to permit child DELETE ≡ true) ⊎ (is_granted_to permit item DELETE_CHILD ≡ true)

-- how a home may be left
abbrev pub MayLeave : PermitState → ℕ → Value → Type 0
MayLeave permit item is =
    (may_delete permit item ≡ true)
    × ((home : ℕ) → Contains (home_of is) home → is_granted_to permit home ADD_FILE ≡ true)

-- the field is the same, or the mask is granted
abbrev IsSame : {A : Type 0} → (Value → A) → Value → Value → Bool → Type 0
IsSame field was is granted = (field is ≡ field was) ⊎ (granted ≡ true)

pub record Differs (permit : PermitState) (item : ℕ) (was is : Value) : Type 0 where
  pub headed : IsHeaded is
  pub title : IsSame title_field was is (is_granted_to permit item WRITE_ATTRIBUTES)
  pub content : IsSame content_field was is (is_granted_to permit item WRITE_DATA)
  pub members : IsSame members_field was is (is_granted_to permit item WRITE_DATA)
  pub head : IsSame head_of was is (is_granted_to permit item WRITE_OWNER)
  pub own_list : list_of is ≡ list_of was
  pub album_home : album_home_field is ≡ album_home_field was
  pub home : (home_of is ≡ home_of was) ⊎ MayLeave permit item is
  pub gained :
      (child : ℕ) → Contains (children_of is) child → Contains (children_of was) child ⊎ MayGain permit item child
  pub lost :
      (child : ℕ) → Contains (children_of was) child → Contains (children_of is) child ⊎ MayLose permit item child

-- ---- what it grants

without : {P : Type 0} (b : Bool) → P ⊎ (b ≡ true) → b ≡ false → P
without b (inl p) lacks = p
without b (inr g) lacks = absurd (both_ways b lacks g)

not-gone : (v : Value) → IsHeaded v → v ≡ value.Missing → ⊥
not-gone v headed e = both_ways (is_none (head_of v)) headed (ap (λ (w : Value). is_none (head_of w)) e)

not-list : (v : Value) (entries : List Ace) → IsHeaded v → v ≡ value.List entries → ⊥
not-list v entries headed e = both_ways (is_none (head_of v)) headed (ap (λ (w : Value). is_none (head_of w)) e)

pub granted-change :
    (permit : PermitState) (item : ℕ) (was is : Value) → Differs permit item was is
    → IsGrantedChange permit item was is
granted-change permit item was is d =
    record {
      gone = λ e. absurd (not-gone is d.headed e);
      entries = λ entries e. absurd (not-list is entries d.headed e);
      own_list = λ number c. subst (λ (xs : List ℕ). Contains xs number) d.own_list c;
      head = λ lacks head e. sym (without (is_granted_to permit item WRITE_OWNER) d.head lacks) ∙ e;
      title = λ lacks title e. sym (without (is_granted_to permit item WRITE_ATTRIBUTES) d.title lacks) ∙ e;
      content = λ lacks content e. sym (without (is_granted_to permit item WRITE_DATA) d.content lacks) ∙ e;
      members = λ lacks members e. sym (without (is_granted_to permit item WRITE_DATA) d.members lacks) ∙ e;
      home = λ lacks home c. stays lacks home c d.home;
      new_home = λ home lacks c. found home lacks c d.home;
      album_home = λ home e. sym d.album_home ∙ e;
      picture_gained = λ lacks child kind c. gained_picture lacks child kind (d.gained child c);
      other_gained = λ lacks child kind c. gained_other lacks child kind (d.gained child c);
      lost = λ lacks child lacks_it album e c.
          subst (λ (v : Value). Contains (children_of v) child) e (lost lacks child lacks_it (d.lost child c));
    }
  where
    stays :
        may_delete permit item ≡ false → (home : ℕ) → Contains (home_of is) home
        → (home_of is ≡ home_of was) ⊎ MayLeave permit item is → Contains (home_of was) home
    stays lacks home c (inl same) = subst (λ (xs : List ℕ). Contains xs home) same c
    stays lacks home c (inr may) = absurd (both_ways (may_delete permit item) lacks may.0)

    found :
        (home : ℕ) → is_granted_to permit home ADD_FILE ≡ false → Contains (home_of is) home
        → (home_of is ≡ home_of was) ⊎ MayLeave permit item is → Contains (home_of was) home
    found home lacks c (inl same) = subst (λ (xs : List ℕ). Contains xs home) same c
    found home lacks c (inr may) = absurd (both_ways (is_granted_to permit home ADD_FILE) lacks (may.1 home c))

    gained_picture :
        is_granted_to permit item ADD_FILE ≡ false → (child : ℕ) → kind_of child ≡ 0
        → Contains (children_of was) child ⊎ MayGain permit item child → Contains (children_of was) child
    gained_picture lacks child kind (inl c) = c
    gained_picture lacks child kind (inr (inl may)) = absurd (both_ways (is_granted_to permit item ADD_FILE) lacks may.1)
    gained_picture lacks child kind (inr (inr may)) = absurd (may.0 kind)

    gained_other :
        is_granted_to permit item ADD_SUBDIRECTORY ≡ false → (child : ℕ) → (kind_of child ≡ 0 → ⊥)
        → Contains (children_of was) child ⊎ MayGain permit item child → Contains (children_of was) child
    gained_other lacks child kind (inl c) = c
    gained_other lacks child kind (inr (inl may)) = absurd (kind may.0)
    gained_other lacks child kind (inr (inr may)) =
        absurd (both_ways (is_granted_to permit item ADD_SUBDIRECTORY) lacks may.1)

    lost :
        is_granted_to permit item DELETE_CHILD ≡ false → (child : ℕ) → is_granted_to permit child DELETE ≡ false
        → Contains (children_of is) child ⊎ MayLose permit item child → Contains (children_of is) child
    lost lacks child lacks_it (inl c) = c
    lost lacks child lacks_it (inr (inl may)) = absurd (both_ways (is_granted_to permit child DELETE) lacks_it may)
    lost lacks child lacks_it (inr (inr may)) =
        absurd (both_ways (is_granted_to permit item DELETE_CHILD) lacks may)

-- ---- one thing changed

module _ (permit : PermitState) (item : ℕ) where
  -- home and children stay
  parts :
      (was is : Value) → IsHeaded is → IsSame title_field was is (is_granted_to permit item WRITE_ATTRIBUTES)
      → IsSame content_field was is (is_granted_to permit item WRITE_DATA)
      → IsSame members_field was is (is_granted_to permit item WRITE_DATA)
      → IsSame head_of was is (is_granted_to permit item WRITE_OWNER)
      → list_of is ≡ list_of was → album_home_field is ≡ album_home_field was → home_of is ≡ home_of was
      → children_of is ≡ children_of was → Differs permit item was is
  parts was is headed title content members head own album_home home children =
      record {
        headed = headed;
        title = title;
        content = content;
        members = members;
        head = head;
        own_list = own;
        album_home = album_home;
        home = inl home;
        gained = λ child c. inl (subst (λ (xs : List ℕ). Contains xs child) children c);
        lost = λ child c. inl (subst (λ (xs : List ℕ). Contains xs child) (sym children) c);
      }

  unchanged : (v : Value) → IsHeaded v → Differs permit item v v
  unchanged v headed = parts v v headed (inl refl) (inl refl) (inl refl) (inl refl) refl refl refl refl

  pub titled :
      (title : List ℕ) (v : Value) → IsHeaded v → is_granted_to permit item WRITE_ATTRIBUTES ≡ true
      → Differs permit item v (with_title title v)
  titled title value.Missing headed g = absurd (both_ways true headed refl)
  titled title (value.Picture x) headed g =
      parts (value.Picture x) (with_title title (value.Picture x)) refl (inr g) (inl refl) (inl refl) (inl refl) refl refl
      refl refl
  titled title (value.Album x) headed g =
      parts (value.Album x) (with_title title (value.Album x)) refl (inr g) (inl refl) (inl refl) (inl refl) refl refl
      refl refl
  titled title (value.List x) headed g = absurd (both_ways true headed refl)
  titled title (value.Group x) headed g = unchanged (value.Group x) refl

  pub refilled :
      (content : List ℕ) (v : Value) → IsHeaded v → is_granted_to permit item WRITE_DATA ≡ true
      → Differs permit item v (with_content content v)
  refilled content value.Missing headed g = absurd (both_ways true headed refl)
  refilled content (value.Picture x) headed g =
      parts (value.Picture x) (with_content content (value.Picture x)) refl (inl refl) (inr g) (inl refl) (inl refl) refl
      refl refl refl
  refilled content (value.Album x) headed g = unchanged (value.Album x) refl
  refilled content (value.List x) headed g = absurd (both_ways true headed refl)
  refilled content (value.Group x) headed g = unchanged (value.Group x) refl

  pub remembered :
      (members : List Member) (v : Value) → IsHeaded v → is_granted_to permit item WRITE_DATA ≡ true
      → Differs permit item v (with_members members v)
  remembered members value.Missing headed g = absurd (both_ways true headed refl)
  remembered members (value.Picture x) headed g = unchanged (value.Picture x) refl
  remembered members (value.Album x) headed g = unchanged (value.Album x) refl
  remembered members (value.List x) headed g = absurd (both_ways true headed refl)
  remembered members (value.Group x) headed g =
      parts (value.Group x) (with_members members (value.Group x)) refl (inl refl) (inl refl) (inr g) (inl refl) refl refl
      refl refl

  pub reowned :
      (owner : List ℕ) (number : ℕ) (v : Value) → IsHeaded v → is_granted_to permit item WRITE_OWNER ≡ true
      → Differs permit item v (with_owner owner number v)
  reowned owner number value.Missing headed g = absurd (both_ways true headed refl)
  reowned owner number (value.Picture x) headed g =
      parts (value.Picture x) (with_owner owner number (value.Picture x)) refl (inl refl) (inl refl) (inl refl) (inr g)
      refl refl refl refl
  reowned owner number (value.Album x) headed g =
      parts (value.Album x) (with_owner owner number (value.Album x)) refl (inl refl) (inl refl) (inl refl) (inr g) refl
      refl refl refl
  reowned owner number (value.List x) headed g = absurd (both_ways true headed refl)
  reowned owner number (value.Group x) headed g =
      parts (value.Group x) (with_owner owner number (value.Group x)) refl (inl refl) (inl refl) (inl refl) (inr g) refl
      refl refl refl

  pub rehomed :
      (number : ℕ) (v : Value) → IsHeaded v → may_delete permit item ≡ true
      → is_granted_to permit (album number) ADD_FILE ≡ true → Differs permit item v (with_home number v)
  rehomed number value.Missing headed g to = absurd (both_ways true headed refl)
  rehomed number (value.Picture x) headed g to =
      record {
        headed = refl;
        title = inl refl;
        content = inl refl;
        members = inl refl;
        head = inl refl;
        own_list = refl;
        album_home = refl;
        home = inr (g, λ home c. one home c.0 c.1 c.2);
        gained = λ child c. inl c;
        lost = λ child c. inl c;
      }
    where
      one :
          (home k : ℕ) → k < 1 → slice_index_or (album number ∷ []) k home ≡ home
          → is_granted_to permit home ADD_FILE ≡ true
      one home zero below same = subst (λ (i : ℕ). is_granted_to permit i ADD_FILE ≡ true) same to
      one home (suc k) below same = absurd (omega (arith, below))
  rehomed number (value.Album x) headed g to = unchanged (value.Album x) refl
  rehomed number (value.List x) headed g to = absurd (both_ways true headed refl)
  rehomed number (value.Group x) headed g to = unchanged (value.Group x) refl

  pub with-child :
      (child : ℕ) (v : Value) → IsHeaded v → MayGain permit item child → Differs permit item v (with_child child v)
  with-child child value.Missing headed may = absurd (both_ways true headed refl)
  with-child child (value.Picture x) headed may = unchanged (value.Picture x) refl
  with-child child (value.Album x) headed may =
      record {
        headed = refl;
        title = inl refl;
        content = inl refl;
        members = inl refl;
        head = inl refl;
        own_list = refl;
        album_home = refl;
        home = inl refl;
        gained = λ c k. gained c (Contains-push_cases (others child x.children) child c k);
        lost = λ c k. inl (lost c k (child == c) refl);
      }
    where
      gained :
          (c : ℕ) → Contains (others child x.children) c ⊎ (child ≡ c) → Contains x.children c ⊎ MayGain permit item c
      gained c (inl k) = inl (kept-was (λ other. not (child == other)) x.children c k)
      gained c (inr same) = inr (subst (MayGain permit item) same may)

      lost :
          (c : ℕ) → Contains x.children c → (b : Bool) → (child == c) ≡ b
          → Contains (others child x.children ++ child ∷ []) c
      lost c k true same =
          subst (Contains (others child x.children ++ child ∷ [])) (eqb-true child c same)
          (Contains-push (others child x.children) child)
      lost c k false other =
          Contains-append_left (others child x.children) (child ∷ []) c
          (was-kept (λ other. not (child == other)) x.children c (not_from_false (child == c) other) k)
  with-child child (value.List x) headed may = absurd (both_ways true headed refl)
  with-child child (value.Group x) headed may = unchanged (value.Group x) refl

  pub without-child :
      (child : ℕ) (v : Value) → IsHeaded v → MayLose permit item child → Differs permit item v (without_child child v)
  without-child child value.Missing headed may = absurd (both_ways true headed refl)
  without-child child (value.Picture x) headed may = unchanged (value.Picture x) refl
  without-child child (value.Album x) headed may =
      record {
        headed = refl;
        title = inl refl;
        content = inl refl;
        members = inl refl;
        head = inl refl;
        own_list = refl;
        album_home = refl;
        home = inl refl;
        gained = λ c k. inl (kept-was (λ other. not (child == other)) x.children c k);
        lost = λ c k. lost c k (child == c) refl;
      }
    where
      lost :
          (c : ℕ) → Contains x.children c → (b : Bool) → (child == c) ≡ b
          → Contains (others child x.children) c ⊎ MayLose permit item c
      lost c k true same = inr (subst (MayLose permit item) (eqb-true child c same) may)
      lost c k false other =
          inl (was-kept (λ other. not (child == other)) x.children c (not_from_false (child == c) other) k)
  without-child child (value.List x) headed may = absurd (both_ways true headed refl)
  without-child child (value.Group x) headed may = unchanged (value.Group x) refl

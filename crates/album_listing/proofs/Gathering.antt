-- The members of the groups of a view, gathered item by item, for `groups::listed_in` (`gathered-more`,
-- `gathered-other`,
-- `gathered-all`), and who is in a group by them, for `groups::groups_in` (`groups-are`).
use Rattle.std.proofs.Common.{◌≡◌, ◌≢◌, ◌<◌, ◌≤◌, ◌+◌, ◌||◌, ◌==◌, ◌++◌, ◌↔◌, ℕ, zero, suc, List, [], ◌∷◌, Bool, true, false, cond, filter, Option, Some, None, is_some, length, take, get_or, refl, sym, ap, subst, ◌∙◌, arith, Contains, IsTrue, if◌then◌else◌}
use Rattle.std.specs.Option.{option_map_or}
use Rattle.std.proofs.lemmas.Bool.{eqb-true, eq-eqb, or_from}
use Rattle.std.proofs.lemmas.List.{take_more, take_all}
use Rattle.std.proofs.lemmas.List.Folds.{list_any-append}
use Rattle.std.proofs.lemmas.Slice.Eq.{bytes_eq-Decides}
use Rattle.album_lists.specs.declared.whos.Member.{Member}
use Rattle.album_lists.specs.declared.whos.Member.TheVariants as member
use Rattle.album_eval.specs.Groups.{IsIn, IsMember}
use Rattle.album_eval.specs.Matching.{is_user}
use Rattle.album_eval.specs.Groups.IsIn.{by_name, by_group}
use Rattle.album_eval.specs.declared.facts.Principal.{Principal}
use Rattle.album_eval.specs.declared.facts.Principal.TheVariants as principal
use Rattle.album_items.specs.ItemIds.{group, number_of, kind_of}
use Rattle.album_items.specs.Values.{members_of}
use Rattle.album_items.specs.declared.values.Value.{Value}
use Rattle.album_items.specs.declared.values.Value.TheVariants.{Missing}
use Rattle.album_reader.specs.Answers.{ReadVersion}
use Rattle.album_reader.specs.Snapshots.{items_read, version_read}
use Rattle.album_views.specs.Seen.{seen}
use Rattle.album_views.proofs.Sets.{has, in-right, in-here}
use Rattle.album_views.proofs.Turns.{read-has}
use Rattle.album_listing.specs.Basis.{AreGroups, members_seen}
use Rattle.album_listing.specs.GroupsFound.{may_bring_in}

-- ---- gathered item by item

-- the members of the value that may bring the principal in
abbrev pub members_for : Principal → Value → List Member
members_for p v = filter (may_bring_in p) (members_of v)

-- those of a group that is among the items; of no other
abbrev pub gathered_of : Principal → (ℕ → Value) → List ℕ → ℕ → List Member
gathered_of p seen items number = if has items (group number) then members_for p (seen (group number)) else []

abbrev pub IsGathered : Principal → (ℕ → Value) → List ℕ → (ℕ → List Member) → Type 0
IsGathered p seen items listed = (number : ℕ) → listed number ≡ gathered_of p seen items number

-- an item is the group of its number, if it is a group
group-back : (item : ℕ) → kind_of item ≡ 3 → group (number_of item) ≡ item
group-back item e = omega (arith, e)

-- an item that is another changes nothing
has-other : (items : List ℕ) (item other : ℕ) → (other == item) ≡ false → has (items ++ item ∷ []) other ≡ has items other
has-other items item other e = list_any-append (◌==◌ other) items (item ∷ []) ∙ go (has items other)
  where
    go : (b : Bool) → (b || (other == item || false)) ≡ b
    go true = refl
    go false = or_from (other == item) false e refl

-- two that differ
apart : (a b : ℕ) → a ≢ b → (a == b) ≡ false
apart a b differ = go (a == b) refl
  where
    go : (t : Bool) → (a == b) ≡ t → (a == b) ≡ false
    go false e = e
    go true e = absurd (differ (eqb-true a b e))

-- one group more
more :
    (p : Principal) (seen : ℕ → Value) (items : List ℕ) (item : ℕ) (old new : ℕ → List Member) → kind_of item ≡ 3
    → ((number : ℕ) → new number ≡ (if number_of item == number then members_for p (seen item) else old number))
    → IsGathered p seen items old → IsGathered p seen (items ++ item ∷ []) new
more p seen items item old new kind is gathered number = go (number_of item == number) refl
  where
    go : (b : Bool) → (number_of item == number) ≡ b → new number ≡ gathered_of p seen (items ++ item ∷ []) number
    go true e =
        let same : group number ≡ item =
        ap (λ n. group n) (sym (eqb-true (number_of item) number e)) ∙ group-back item kind in
        let there : has (items ++ item ∷ []) (group number) ≡ true =
        subst (λ x. has (items ++ item ∷ []) x ≡ true) (sym same) (in-right items (item ∷ []) item (in-here item [])) in
        is number
        ∙ ap (λ (b : Bool). if b then members_for p (seen item) else old number) e
        ∙ ap (λ x. members_for p (seen x)) (sym same)
        ∙ ap (λ (b : Bool). if b then members_for p (seen (group number)) else []) (sym there)
    go false e =
        let other : (group number == item) ≡ false =
        apart (group number) item (λ same.
        let equal : number_of item ≡ number = omega (arith, same) in
        let t = eq-eqb (number_of item) number equal in absurd (cc)) in
        is number
        ∙ ap (λ (b : Bool). if b then members_for p (seen item) else old number) e
        ∙ gathered number
        ∙ ap (λ (b : Bool). if b then members_for p (seen (group number)) else []) (sym (has-other items item (group number) other))

pub gathered-more :
    (p : Principal) (seen : ℕ → Value) (items : List ℕ) (n : ℕ) (old new : ℕ → List Member) → n < length items
    → kind_of (get_or items n 0) ≡ 3
    → ((number : ℕ)
    → new number ≡ (if number_of (get_or items n 0) == number then members_for p (seen (get_or items n 0)) else old number))
    → IsGathered p seen (take n items) old → IsGathered p seen (take (n + 1) items) new
gathered-more p seen items n old new l kind is gathered =
    subst (λ (is : List ℕ). IsGathered p seen is new) (sym (take_more items n 0 l))
    (more p seen (take n items) (get_or items n 0) old new kind is gathered)

-- one item more that is no group
pub gathered-other :
    (p : Principal) (seen : ℕ → Value) (items : List ℕ) (n : ℕ) (listed : ℕ → List Member) → n < length items
    → kind_of (get_or items n 0) ≢ 3
    → IsGathered p seen (take n items) listed → IsGathered p seen (take (n + 1) items) listed
gathered-other p seen items n listed l kind gathered number =
    let other : (group number == get_or items n 0) ≡ false =
    apart (group number) (get_or items n 0) (λ same. kind (omega (arith, same))) in
    gathered number
    ∙ ap (λ (b : Bool). if b then members_for p (seen (group number)) else [])
    (sym (ap (λ (is : List ℕ). has is (group number)) (take_more items n 0 l)
    ∙ has-other (take n items) (get_or items n 0) (group number) other))

-- what was not read is missing
unread : (rows : List ReadVersion) (item : ℕ) → has (items_read rows) item ≡ false → seen rows item ≡ Missing
unfolding seen
unread rows item e = go (version_read rows item) (read-has rows item ∙ e)
  where
    go : (o : Option (ℕ × Value)) → is_some o ≡ false → option_map_or (λ version. version.1) o Missing ≡ Missing
    go None e = refl
    go (Some version) e = absurd (cc)

pub gathered-all :
    (p : Principal) (rows : List ReadVersion) (n : ℕ) (listed : ℕ → List Member) → length (items_read rows) ≤ n
    → IsGathered p (seen rows) (take n (items_read rows)) listed
    → (number : ℕ) → listed number ≡ filter (may_bring_in p) (members_seen (seen rows) number)
gathered-all p rows n listed l gathered number =
    gathered number
    ∙ ap (λ (is : List ℕ). gathered_of p (seen rows) is number) (take_all n (items_read rows) l)
    ∙ go (has (items_read rows) (group number)) refl
  where
    go :
        (b : Bool) → has (items_read rows) (group number) ≡ b
        → gathered_of p (seen rows) (items_read rows) number ≡ members_for p (seen rows (group number))
    go true e = ap (λ (b : Bool). if b then members_for p (seen rows (group number)) else []) e
    go false e =
        ap (λ (b : Bool). if b then members_for p (seen rows (group number)) else []) e
        ∙ ap (members_for p) (sym (unread rows (group number) e))

-- ---- membership

in-along :
    (a b : ℕ → List Member) (user : List ℕ) → ((number : ℕ) → a number ≡ b number)
    → (number : ℕ) → IsIn a user number → IsIn b user number
in-along a b user same number (by_name n c) =
    by_name n (subst (λ (ms : List Member). Contains ms (member.User user)) (same n) c)
in-along a b user same number (by_group n inner c h) =
    by_group n inner (subst (λ (ms : List Member). Contains ms (member.Group inner)) (same n) c)
    (in-along a b user same inner h)

pub member-along :
    (a b : ℕ → List Member) (p : Principal) → ((number : ℕ) → a number ≡ b number)
    → (number : ℕ) → IsMember a p number → IsMember b p number
member-along a b principal.Anonymous same number m = m
member-along a b (principal.User user) same number m = in-along a b user same number m
member-along a b (principal.Root user) same number m = in-along a b user same number m

-- ---- members that may bring a principal in

behind : (y : Member) (ys : List Member) (x : Member) → Contains ys x → Contains (y ∷ ys) x
behind y ys x (k, l, e) = (suc k, omega arith, e)

kept-in : (p : Member → Bool) (xs : List Member) (x : Member) → Contains (filter p xs) x → Contains xs x
kept-in p [] x (k, l, e) = absurd (omega arith)
kept-in p (y ∷ ys) x c = go (p y) c (kept-in p ys x)
  where
    go : (b : Bool) → Contains (cond b (y ∷ filter p ys) (filter p ys)) x → (Contains (filter p ys) x → Contains ys x)
        → Contains (y ∷ ys) x
    go true (zero, l, e) h = (zero, omega arith, e)
    go true (suc k, l, e) h = behind y ys x (h (k, omega arith, e))
    go false c h = behind y ys x (h c)

in-kept : (p : Member → Bool) (xs : List Member) (x : Member) → p x ≡ true → Contains xs x → Contains (filter p xs) x
in-kept p [] x t (k, l, e) = absurd (omega arith)
in-kept p (y ∷ ys) x t (zero, l, e) =
    let here : p y ≡ true = ap p e ∙ t in
    subst (λ (b : Bool). Contains (cond b (y ∷ filter p ys) (filter p ys)) x) (sym here) (zero, omega arith, e)
in-kept p (y ∷ ys) x t (suc k, l, e) = go (p y) (in-kept p ys x t (k, omega arith, e))
  where
    go : (b : Bool) → Contains (filter p ys) x → Contains (cond b (y ∷ filter p ys) (filter p ys)) x
    go true c = behind y (filter p ys) x c
    go false c = c

-- the user is in the same groups by them
in-all :
    (f : ℕ → List Member) (p : Principal) (user : List ℕ) (number : ℕ)
    → IsIn (λ n. filter (may_bring_in p) (f n)) user number → IsIn f user number
in-all f p user number (by_name n c) = by_name n (kept-in (may_bring_in p) (f n) (member.User user) c)
in-all f p user number (by_group n inner c h) =
    by_group n inner (kept-in (may_bring_in p) (f n) (member.Group inner) c) (in-all f p user inner h)

in-few :
    (f : ℕ → List Member) (p : Principal) (user : List ℕ) (number : ℕ) → is_user p user ≡ true
    → IsIn f user number → IsIn (λ n. filter (may_bring_in p) (f n)) user number
in-few f p user number is (by_name n c) = by_name n (in-kept (may_bring_in p) (f n) (member.User user) is c)
in-few f p user number is (by_group n inner c h) =
    by_group n inner (in-kept (may_bring_in p) (f n) (member.Group inner) refl c) (in-few f p user inner is h)

member-of-all :
    (f : ℕ → List Member) (p : Principal) (number : ℕ)
    → IsMember (λ n. filter (may_bring_in p) (f n)) p number → IsMember f p number
member-of-all f principal.Anonymous number m = m
member-of-all f (principal.User user) number m = in-all f (principal.User user) user number m
member-of-all f (principal.Root user) number m = in-all f (principal.Root user) user number m

member-of-few :
    (f : ℕ → List Member) (p : Principal) (number : ℕ)
    → IsMember f p number → IsMember (λ n. filter (may_bring_in p) (f n)) p number
member-of-few f principal.Anonymous number m = m
member-of-few f (principal.User user) number m =
    in-few f (principal.User user) user number ((bytes_eq-Decides user user).1 refl) m
member-of-few f (principal.Root user) number m =
    in-few f (principal.Root user) user number ((bytes_eq-Decides user user).1 refl) m

-- the groups by lists that have those members of each group that is seen
pub groups-are :
    (rows : List ReadVersion) (p : Principal) (listed : ℕ → List Member) (is_in : ℕ → Bool)
    → ((number : ℕ) → listed number ≡ filter (may_bring_in p) (members_seen (seen rows) number))
    → ((number : ℕ) → IsTrue (is_in number) ↔ IsMember listed p number)
    → AreGroups (seen rows) p is_in
groups-are rows p listed is_in same tied =
    let few = λ (number : ℕ). filter (may_bring_in p) (members_seen (seen rows) number) in
    record {
      tied = λ number. (
        λ t. member-of-all (members_seen (seen rows)) p number (member-along listed few p same number ((tied number).0 t)),
        λ m. (tied number).1
            (member-along few listed p (λ n. sym (same n)) number (member-of-few (members_seen (seen rows)) p number m)),
      );
    }

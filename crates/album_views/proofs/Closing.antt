-- A snapshot is closed where each name was read, and only there (`closed-is`), for the laws and for `Viewing::on_names`;
-- and what each step says of the snapshot, for the law `a_view_is_the_first_closed_read`.
use Rattle.std.proofs.Common.{◌≡◌, ◌≢◌, ◌≤◌, ◌↔◌, ◌==◌, inl, inr, ℕ, Bool, true, false, List, [], ◌∷◌, length, Option, None, Contains, refl, sym, ap, subst, ◌∙◌}
use Rattle.std.specs.List.{list_all}
use Rattle.std.proofs.lemmas.Bool.{and_parts, and_from, or_left, or_right, eqb-true, eq-eqb}
use Rattle.album_stamps.specs.Distinct.{are_distinct}
use Rattle.album_stamps.specs.declared.limits.TheConstants.{MAX_READ_ITEMS}
use Rattle.album_eval.specs.declared.facts.Principal.{Principal}
use Rattle.album_reader.specs.Answers.{ReadVersion}
use Rattle.album_reader.specs.Snapshots.{items_read}
use Rattle.album_views.specs.Asks.{objects_of}
use Rattle.album_views.specs.Checks.{flaw_of}
use Rattle.album_views.specs.ReadSets.{IsNamed, subjects_of, names_of}
use Rattle.album_views.specs.ReadSets.IsNamed.{Subject}
use Rattle.album_views.specs.Seen.{is_read, seen}
use Rattle.album_views.specs.Steps.{AreReadable}
use Rattle.album_views.specs.Views.{IsClosed, is_closed}
use Rattle.album_views.specs.declared.asks.Ask.{Ask}
use Rattle.album_views.proofs.Flaws.{asks_objects}
use Rattle.album_views.proofs.Growing.{grown-single, named-in}
use Rattle.album_views.proofs.Sets.{has, one-of, has-Contains, Contains-has, in-left}
use Rattle.album_views.proofs.Turns.{read-has, names-fixed, names-named}

-- ---- each name

pub all-in : (test : ℕ → Bool) (xs : List ℕ) → list_all test xs ≡ true → (x : ℕ) → has xs x ≡ true → test x ≡ true
all-in test [] all x h = absurd (cc)
all-in test (y ∷ ys) all x h =
    let parts = and_parts (test y) (list_all test ys) all in
    elim (one-of (x == y) (has ys x) h) [
      | inl e ↦ subst (λ z. test z ≡ true) (sym (eqb-true x y e)) parts.0
      | inr r ↦ all-in test ys parts.1 x r
    ]

in-all : (test : ℕ → Bool) (xs : List ℕ) → ((x : ℕ) → has xs x ≡ true → test x ≡ true) → list_all test xs ≡ true
in-all test [] each = refl
in-all test (y ∷ ys) each =
    and_from (test y) (list_all test ys) (each y (or_left (y == y) (has ys y) (eq-eqb y y refl)))
    (in-all test ys (λ x h. each x (or_right (x == y) (has ys x) h)))

-- ---- names

pub names-named-by :
    (rows : List ReadVersion) (looker : Option Principal) (ask : Ask) (item : ℕ) → Contains (names_of rows looker ask) item ↔ IsNamed (seen rows) looker ask item
names-named-by rows looker ask item = (
  λ c. names-named rows looker ask item (Contains-has (names_of rows looker ask) item c),
  λ n. has-Contains (names_of rows looker ask) item
      (named-in (seen rows) looker ask (names_of rows looker ask) (names-fixed rows looker ask) item n),
)

pub names-single : (rows : List ReadVersion) (looker : Option Principal) (ask : Ask) → are_distinct (names_of rows looker ask) ≡ true
names-single rows looker ask =
    subst (λ (ns : List ℕ). are_distinct ns ≡ true) (sym (names-fixed rows looker ask))
    (grown-single (seen rows) looker ask (names_of rows looker ask))

-- ---- closed

pub closed-is : (rows : List ReadVersion) (looker : Option Principal) (ask : Ask) → is_closed looker ask rows ≡ true → IsClosed looker ask rows
unfolding is_closed
closed-is rows looker ask all = λ item named.
    let there = named-in (seen rows) looker ask (names_of rows looker ask) (names-fixed rows looker ask) item named in
    has-Contains (items_read rows) item
    (sym (read-has rows item) ∙ all-in (is_read rows) (names_of rows looker ask) all item there)

pub is-closed : (rows : List ReadVersion) (looker : Option Principal) (ask : Ask) → IsClosed looker ask rows → is_closed looker ask rows ≡ true
unfolding is_closed
is-closed rows looker ask closed =
    in-all (is_read rows) (names_of rows looker ask)
    (λ item h. read-has rows item ∙ Contains-has (items_read rows) item (closed item (names-named rows looker ask item h)))

pub not-closed : (rows : List ReadVersion) (looker : Option Principal) (ask : Ask) → is_closed looker ask rows ≡ false → IsClosed looker ask rows → ⊥
not-closed rows looker ask lacking closed = let all = is-closed rows looker ask closed in absurd (cc)

-- the test of the names is whether the snapshot is closed
pub closed-tested :
    (rows : List ReadVersion) (looker : Option Principal) (ask : Ask) (names : List ℕ) (b : Bool)
    → names ≡ names_of rows looker ask → b ≡ list_all (is_read rows) names → is_closed looker ask rows ≡ b
unfolding is_closed
closed-tested rows looker ask names b e test = sym (test ∙ ap (list_all (is_read rows)) e)

-- ---- readable names

-- an ask with an object has a name
names-some : (rows : List ReadVersion) (looker : Option Principal) (ask : Ask) → flaw_of ask ≡ None → names_of rows looker ask ≢ []
names-some rows looker ask e none = go (objects_of ask) (asks_objects ask e).0 (λ item h.
    named-in (seen rows) looker ask (names_of rows looker ask) (names-fixed rows looker ask) item
    (Subject item (has-Contains (subjects_of (seen rows) ask) item (in-left (objects_of ask) _ item h))))
  where
    go : (objects : List ℕ) → length objects ≢ 0 → ((item : ℕ) → has objects item ≡ true → has (names_of rows looker ask) item ≡ true) → ⊥
    go [] some each = some refl
    go (item ∷ objects) some each =
        let there = subst (λ (ns : List ℕ). has ns item ≡ true) none
        (each item (or_left (item == item) (has objects item) (eq-eqb item item refl))) in
        absurd (cc)

pub names-readable :
    (rows : List ReadVersion) (looker : Option Principal) (ask : Ask) → flaw_of ask ≡ None
    → length (names_of rows looker ask) ≤ MAX_READ_ITEMS → AreReadable (names_of rows looker ask)
names-readable rows looker ask e l = record {
  some = names-some rows looker ask e;
  few = l;
  single = cc (names-single rows looker ask);
}

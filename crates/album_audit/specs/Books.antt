-- What an audit book holds.
use Rattle.std.specs.Prelude.{◌≡◌, ◌≤◌, ◌<◌, ◌+◌, ◌++◌, [], ◌∷◌, ◌^◌, ◌||◌, nat_le, Bool, ℕ, List, Option, None, option_map}
use Rattle.std.specs.Option.{unwrap_or}
use Rattle.album_stamps.specs.declared.limits.TheConstants.{CLIENTS}
use Rattle.album_audit.specs.Totals.{totals_of, none, plus}
use Rattle.album_audit.specs.declared.totals.Record.{Record}
use Rattle.album_audit.specs.declared.totals.Totals.{Totals}

-- the names of the four ledgers of a book
pub record LedgerNames : Type 0 where
  pub audit_ok : ℕ
  pub audit_failed : ℕ
  pub alarm_ok : ℕ
  pub alarm_failed : ℕ

-- how much was noted with a share, of each kind, and the records of what was noted last with it
pub record ShareState : Type 0 where
  pub totals : Totals
  pub last : List Record

-- a share with which nothing is noted yet
abbrev pub new_share : ShareState
new_share = record { totals = none; last = [] }

-- of records that are noted together the last ones are these, if there are some
abbrev pub last_of : List Record → List Record → List Record
last_of before [] = before
last_of before (first ∷ more) = first ∷ more

-- the share with these records more, which were noted together
abbrev pub share_with : ShareState → List Record → ShareState
share_with share records = record {
  totals = plus share.totals (totals_of records);
  last = last_of share.last records;
}

-- how much was noted of each kind, how many shares were given, how many of them aren't gathered, what the gathered
-- ones had, and, where records are kept, those that aren't taken yet
pub record BookState : Type 0 where
  pub totals : Totals
  pub given : ℕ
  pub out : ℕ
  pub gathered : Totals
  pub kept : Option (List Record)

-- the book as it opens
abbrev pub new_book : BookState
new_book = record { totals = none; given = 0; out = 0; gathered = none; kept = None }

-- the book with these records more: they count, and where records are kept they are, after those before them
abbrev pub book_with : BookState → List Record → BookState
book_with book records = record book {
  totals = plus book.totals (totals_of records);
  kept = option_map (λ before. before ++ records) book.kept;
}

-- the records that are kept
abbrev pub kept_records : Option (List Record) → List Record
kept_records kept = unwrap_or kept []

-- records are kept as before, and these are all taken
abbrev pub none_kept : Option (List Record) → Option (List Record)
none_kept kept = option_map (λ (_ : List Record). []) kept

-- What is true of each book: it gives a share for each client at most, and once every share is gathered, what was
-- gathered is what was noted.
pub record IsBook (book : BookState) : Type 0 where
  pub few : book.given < CLIENTS
  pub less : book.out ≤ book.given
  pub settled : book.out ≡ 0 → book.gathered ≡ book.totals

-- one of the totals has no number any more
abbrev pub is_past_end : Totals → Bool
is_past_end totals =
    nat_le (2 ^ 64) totals.audit_ok
    || nat_le (2 ^ 64) totals.audit_failed
    || nat_le (2 ^ 64) totals.alarm_ok
    || nat_le (2 ^ 64) totals.alarm_failed

-- of each ledger, what isn't lent is in the book
pub record AreLent (out : ℕ) (parts : Totals) : Type 0 where
  pub audit_ok : parts.audit_ok + out ≡ CLIENTS
  pub audit_failed : parts.audit_failed + out ≡ CLIENTS
  pub alarm_ok : parts.alarm_ok + out ≡ CLIENTS
  pub alarm_failed : parts.alarm_failed + out ≡ CLIENTS

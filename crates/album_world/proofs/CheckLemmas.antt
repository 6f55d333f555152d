-- What may be asked, for `may_ask` and `ask`: the check wants no memory, and what passes is asked by an idle client.
use Rattle.std.proofs.Common.{◌≡◌, ℕ, Bool, true, false, Option, Some, None, IsOk, refl, if◌then◌else◌}
use Rattle.album_stamps.specs.declared.refusals.Refusal.{Refusal}
use Rattle.album_stamps.specs.declared.refusals.Refusal.TheVariants.{OutOfMemory, BadRequest, TooManyItems, ListFull, BadFlags, NoOwner}
use Rattle.album_eval.specs.declared.facts.Principal.{Principal}
use Rattle.album_views.specs.declared.asks.Ask.{Ask}
use Rattle.album_lists.specs.Whos.{or_else}
use Rattle.album_views.specs.Checks.{refusal_of, flaw_of}
use Rattle.album_client.specs.declared.clients.Phase.{Phase}
use Rattle.album_client.specs.declared.clients.Phase.TheVariants.{Idle, Reads, Prepares, Commits}
use Rattle.album_client.specs.Terms.{Terms}
use Rattle.album_client.specs.Clients.{Client}
use Rattle.album_world.specs.Moves.{idle_tag}
use Rattle.album_world.specs.Changes.{asks_by, asks_unless}
use Rattle.album_world.specs.Registers.{asks_of}

first : (a b c d f : Bool) (e : Refusal) → e ≡ OutOfMemory
    → or_else (if a then Some BadRequest else if b then Some TooManyItems else if c then Some ListFull else if d then Some BadFlags else None)
    (if f then Some NoOwner else None) ≡ Some e → ⊥
first true b c d f e q h = absurd (cc)
first false true c d f e q h = absurd (cc)
first false false true d f e q h = absurd (cc)
first false false false true f e q h = absurd (cc)
first false false false false true e q h = absurd (cc)
first false false false false false e q h = absurd (cc)

pub check_takes_none : (ask : Ask) (principal : Principal) (e : Refusal) → refusal_of ask principal ≡ Some e → e ≡ OutOfMemory → ⊥
unfolding flaw_of
check_takes_none ask principal e h q = first _ _ _ _ _ e q h

-- ---- what may be asked

module _ (terms : Terms) (n : ℕ) (x : Client) (principal : Principal) (ask : Ask) where
  idle_by : (f : Phase) → IsOk (asks_by terms n x principal ask f) → idle_tag f ≡ None → ⊥
  idle_by (Idle tag) h e = absurd (cc)
  idle_by (Reads pending_ask round) h e = absurd (cc)
  idle_by (Prepares writing) h e = absurd (cc)
  idle_by (Commits writing) h e = absurd (cc)

  pub is_idle : IsOk (asks_of terms n x principal ask) → idle_tag x.phase ≡ None → ⊥
  is_idle h e = idle_by x.phase h e

  taken_unless : (tag : ℕ) (r : Option Refusal) → IsOk (asks_unless terms n x tag principal ask r) → r ≡ None
  taken_unless tag (Some e) h = absurd (cc)
  taken_unless tag None h = refl

  taken_by : (f : Phase) → IsOk (asks_by terms n x principal ask f) → refusal_of ask principal ≡ None
  taken_by (Idle tag) h = taken_unless tag (refusal_of ask principal) h
  taken_by (Reads pending_ask round) h = absurd (cc)
  taken_by (Prepares writing) h = absurd (cc)
  taken_by (Commits writing) h = absurd (cc)

  pub is_taken : IsOk (asks_of terms n x principal ask) → refusal_of ask principal ≡ None
  is_taken h = taken_by x.phase h

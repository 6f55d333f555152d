-- The groups that a principal is in by a view, as a set, and the basis that a context has.
use Rattle.std.specs.Prelude.{ℕ, List}
use Rattle.std.specs.Ordering.{nat_cmp}
use Rattle.std.specs.BTreeSet as set
use Rattle.std.specs.BTreeSet.{BTreeSet}
use Rattle.album_eval.specs.declared.facts.Principal.{Principal}
use Rattle.album_reader.specs.Answers.{ReadVersion}
use Rattle.album_views.specs.Seen.{seen}
use Rattle.album_listing.specs.Basis.{Basis, AreGroups}
use Rattle.album_listing.specs.declared.ruling_contexts.RulingContext.{RulingContext}

-- the set has the numbers of exactly the groups that the principal is in, by what these answers show
abbrev pub IsSetOfGroups : List ReadVersion → Principal → BTreeSet ℕ → Type 0
IsSetOfGroups rows principal groups = AreGroups (seen rows) principal (set.contains nat_cmp groups)

-- what is ruled in a context is based on what it holds
abbrev pub basis_of : RulingContext → Basis
basis_of context =
    record {
      policy = context.policy;
      principal = context.principal.now;
      is_in = set.contains nat_cmp context.groups.now;
      seen = seen context.lookup.view.now.rows;
    }

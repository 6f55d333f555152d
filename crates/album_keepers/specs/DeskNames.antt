-- What no service is named by.
use Rattle.std.specs.Prelude.{false, []}
use Rattle.album_passes.specs.Knowledge.{Terms}

abbrev pub no_terms : Terms
no_terms = record { opening = []; parts = 0; limit = 0; sessions = 0; checked = false; first = 0 }

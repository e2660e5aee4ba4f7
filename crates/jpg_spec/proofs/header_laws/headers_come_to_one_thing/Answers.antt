use Rattle.std.proofs.Common.{take, drop, sym, subst, ◌∙◌}
use Rattle.std.proofs.lemmas.List.{take-append-drop}
use Rattle.jpg_spec.specs.Header.{UnfinishedHeader}
use Rattle.jpg_spec.proofs.Headers.OneHeader.{shown_not_standing, shown_not_whole, whole_not_standing}
use Rattle.jpg_spec.proofs.header_laws.headers_come_to_one_thing.Goals as goal

pub returns-clause-shown_or_standing : goal.returns-clause-shown_or_standing
returns-clause-shown_or_standing c =
    λ limits bytes w t. shown_not_standing limits (take w.1 bytes) (drop w.1 bytes) w.0 w.2 (subst (λ l. UnfinishedHeader limits l) (sym (take-append-drop w.1 bytes)) t)

pub returns-clause-shown_or_whole : goal.returns-clause-shown_or_whole
returns-clause-shown_or_whole c =
    λ limits bytes w h. shown_not_whole limits (take w.1 bytes) h.front (drop w.1 bytes) h.rest w.0 h.before h.contents w.2 h.header (take-append-drop w.1 bytes ∙ h.cut)

pub returns-clause-whole_or_standing : goal.returns-clause-whole_or_standing
returns-clause-whole_or_standing c = λ limits bytes h t. whole_not_standing limits h.front h.rest h.before h.contents h.header (subst (λ l. UnfinishedHeader limits l) h.cut t)

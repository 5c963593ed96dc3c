-- What the reader of the contents answers, with lists in place of references.
use Rattle.casefile.specs.declared.Section.{Section}
use Rattle.casefile.specs.declared.Contents.{Contents}
use Rattle.casefile.specs.Contents.{Part, Laid}

abbrev pub part_in : Section → Part
part_in s = record { at = s.at; bytes = s.bytes.now }

abbrev pub laid_in : Contents → Laid
laid_in c = record {
  first_kind = c.first_kind;
  first = part_in c.first;
  second_kind = c.second_kind;
  second = part_in c.second;
  wiring = part_in c.wiring;
  formula = part_in c.formula;
  steps = part_in c.steps;
}

-- The refusals of lines.
use Rattle.refusals.specs.declared.Refusal.{Refusal}
use Rattle.refusals.specs.Refusals.{plain}
use Rattle.grammar.specs.declared.fault.FormFault.{FormFault}
use Rattle.grammar.specs.declared.fault.FormFault.TheVariants.{TooLong, Unreadable, TooDeep}
use Rattle.grammar.specs.declared.fault.ReadFault.{ReadFault}
use Rattle.grammar.specs.declared.fault.ReadFault.TheVariants.{Misfit, DeepBracket}

abbrev pub form_refusal : FormFault → Refusal
form_refusal TooLong = plain 13 4
form_refusal Unreadable = plain 12 4
form_refusal TooDeep = plain 13 4

-- what a line's reader refuses where a reader inside it stops
abbrev pub fault_of : ReadFault → FormFault
fault_of Misfit = Unreadable
fault_of DeepBracket = TooDeep

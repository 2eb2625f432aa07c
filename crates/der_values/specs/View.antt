-- What the code's values show.
use Rattle.std.specs.Prelude.{List}
use Rattle.der_values.specs.Element.{Element}
use Rattle.der_values.specs.Times as times
use Rattle.der_values.specs.Layout as layouts
use Rattle.der_values.specs.Elements.{elements}
use Rattle.der_values.specs.declared.elements.Elements.{Elements}
use Rattle.der_values.specs.declared.content.Content.{Content}
use Rattle.der_values.specs.declared.tlv.Tlv.{Tlv}
use Rattle.der_values.specs.declared.times.Moment.{Moment}

abbrev pub view : Tlv → Element
view tlv = record { tag = tlv.tag; content = tlv.content.now; whole = tlv.whole.now }

abbrev pub seen : Moment → times.Moment
seen m = record { year = m.year; month = m.month; day = m.day; hour = m.hour; minute = m.minute; second = m.second }

abbrev pub content_view : Content → layouts.Content
content_view c = record { holder = c.holder; begin = c.begin; bytes = c.bytes.now }

-- What an iterator over elements is still to give.
abbrev pub elements_left : Elements → List Element
elements_left s = elements s.rest.now

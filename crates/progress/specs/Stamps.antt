-- The time stamps of points, as they are retained.
use Rattle.meaning.specs.declared.Point.{Point}
use Rattle.meaning.specs.declared.Stamp.{Stamp}
use Rattle.method.specs.Stored.{stamp_in}
use Rattle.progress.specs.declared.Retained.{Retained}

abbrev pub stamps_of : Retained → Point → Stamp
stamps_of r = stamp_in r.base r.times.now

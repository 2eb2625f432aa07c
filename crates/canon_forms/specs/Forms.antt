-- What a form in memory means.
pub use Rattle.canon_methods.specs.Forms.{form_in}

mod NumberedObjects
mod WholeReports
